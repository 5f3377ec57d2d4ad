use Rattle.icu_calendar.proofs.date.Date+A.until.Goals as goal

pub returns : goal.returns
returns g c = rw c.as_calendar.ensures at c.until.ensures
