use Rattle.std.proofs.Common.{refl, IsTrue}
use Rattle.icu_calendar.proofs.date.Date+A.try_until_with_options.Goals as goal

-- the other date belongs to this date's calendar too, where it has the same day number
pub returns-in-Ok-clause-same_day : goal.returns-in-Ok-clause-same_day
returns-in-Ok-clause-same_day g c _ =
    let other = c.args.other.now in
    let laws = g.met.A.Calendar.Calendar in
    let here = g.A.AsCalendar.cal_of c.args.self.now.calendar in
    let there = g.B.AsCalendar.cal_of other.calendar in
    let compatible : IsTrue (g.A.Calendar.Calendar.compatible here there) = rw (c.as_calendar-calendar.ensures, c.as_calendar.ensures) at c.in-Ok.ensures.0 refl in
    let back = laws.compatible_back here there compatible in
    record {
      date = (laws.dated here other.inner (laws.shared there here other.inner back other.belongs)).date;
      day = laws.shared_day there here other.inner back other.belongs;
    }

pub returns-in-Ok-clause-until : goal.returns-in-Ok-clause-until
returns-in-Ok-clause-until g c = rw c.as_calendar-calendar.ensures at c.until.ensures
