use Rattle.cal_rrule.specs.Masks.{Adds, IsStep}
use Rattle.cal_rrule.proofs.weekday_masks.add_weekly.Given as goal

abbrev pub invariant-loop-step : goal.invariant-loop-step
invariant-loop-step l = Adds l.initial.days l.days (IsStep l.from 7 l.step)
