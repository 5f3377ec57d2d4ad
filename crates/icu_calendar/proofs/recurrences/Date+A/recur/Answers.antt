use Rattle.icu_calendar.proofs.recurrences.Date+A.recur.Goals as goal

pub returns-clause-meant : goal.returns-clause-meant
returns-clause-meant g c = rw (c.calendar.ensures, c.inner.ensures) at c.recur.ensures.meant
