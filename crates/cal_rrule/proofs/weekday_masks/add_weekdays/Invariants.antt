use Rattle.cal_rrule.specs.Masks.{Adds, IsWeekdayBefore}
use Rattle.cal_rrule.specs.NamedDays.{stretch}
use Rattle.cal_rrule.proofs.weekday_masks.add_weekdays.Given as goal

abbrev pub invariant-loop-offset : goal.invariant-loop-offset
invariant-loop-offset l = Adds l.initial.days l.days (IsWeekdayBefore l.set (stretch l.first l.length) l.offset)
