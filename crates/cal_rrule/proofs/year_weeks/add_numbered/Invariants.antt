use Rattle.cal_rrule.specs.Masks.{Adds}
use Rattle.cal_rrule.specs.YearWeeks.{IsInNumbered}
use Rattle.cal_rrule.proofs.year_weeks.add_numbered.Given as goal

abbrev pub invariant-loop-place : goal.invariant-loop-place
invariant-loop-place l = Adds l.initial.days l.days (IsInNumbered l.set l.weeks.first l.weeks.count l.place)
