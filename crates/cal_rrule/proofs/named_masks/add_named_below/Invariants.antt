use Rattle.cal_rrule.specs.Masks.{Adds, IsNamedBelow}
use Rattle.cal_rrule.specs.NamedDays.{stretch}
use Rattle.cal_rrule.proofs.named_masks.add_named_below.Given as goal

abbrev pub invariant-loop-number : goal.invariant-loop-number
invariant-loop-number g l = Adds l.initial.days l.days (IsNamedBelow l.number l.set l.skip (stretch l.first l.length))
