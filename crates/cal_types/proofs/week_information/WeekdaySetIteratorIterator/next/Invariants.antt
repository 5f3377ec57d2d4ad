use Rattle.std.proofs.Common.{◌≡◌}
use Rattle.cal_types.specs.WeekdaySet.{weekdays_left}
use Rattle.cal_types.proofs.week_information.WeekdaySetIteratorIterator.next.Given as goal

-- the days that were looked at aren't in the set
abbrev pub invariant-loop-self : goal.invariant-loop-self
invariant-loop-self l = weekdays_left l.self ≡ weekdays_left l.initial.self

abbrev pub decreases-loop-self : goal.decreases-loop-self
decreases-loop-self l = l.self.left
