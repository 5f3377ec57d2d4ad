use Rattle.icu_calendar.proofs.date.Date+A.until_counted.Goals as goal

pub returns-in-Ok-clause-until : goal.returns-in-Ok-clause-until
returns-in-Ok-clause-until g c = rw c.as_calendar-calendar.ensures at c.until_counted.ensures.until
