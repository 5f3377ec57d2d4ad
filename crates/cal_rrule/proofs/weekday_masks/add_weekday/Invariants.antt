use Rattle.cal_rrule.specs.Masks.{Adds, IsWeekdayBelow}
use Rattle.cal_rrule.specs.NamedDays.{stretch}
use Rattle.cal_rrule.proofs.weekday_masks.add_weekday.Given as goal

abbrev pub invariant-loop-week : goal.invariant-loop-week
invariant-loop-week l = Adds l.initial.days l.days (IsWeekdayBelow l.set (stretch l.first l.length) l.offset l.week)
