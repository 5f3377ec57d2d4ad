use Rattle.std.proofs.Common.{◌-ℤ◌, ◌≤ℤ◌}
use Rattle.cal_days.specs.Sums.{years_up}
use Rattle.cal_types.specs.MonthParts.{month_parts}
use Rattle.cal_rrule.specs.Looks.{IsMonthLook}
use Rattle.cal_rrule.specs.Masks.{Adds}
use Rattle.cal_rrule.specs.YearMonths.{IsNamedBefore}
use Rattle.cal_rrule.proofs.named_months.days_in_months.Given as goal

abbrev pub invariant-months : goal.invariant-months
invariant-months g l =
    let list = (g.C.Calendar.system l.calendar).list in
    IsMonthLook list l.look × (l.year.first ≤ℤ l.look.first)
    × Adds l.initial.days l.days
    (IsNamedBefore list l.asked.rule (month_parts l.asked.month.month) l.asked.day_of_month l.year.year l.look.first)

abbrev pub decreases-months : goal.decreases-months
decreases-months g l = years_up (l.end -ℤ l.look.first)
