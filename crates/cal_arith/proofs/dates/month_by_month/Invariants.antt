use Rattle.std.proofs.Common.{◌≡◌, ◌+◌, ◌-◌}
use Rattle.cal_types.specs.CalendarList.{HasPlace, days_before, month_length}
use Rattle.cal_arith.proofs.dates.month_by_month.Given as goal

-- the rest of the days counts from the first of the month
abbrev pub invariant-months : goal.invariant-months
invariant-months g l =
    let c = (g.C.YearShapes.years l.cal).list in let y = (g.C.YearShapes.years l.cal).extended l.fn.year in
    record {
      place : HasPlace c y l.month;
      days : days_before c y l.month + l.rest ≡ l.fn.day_of_year;
      length : l.length ≡ month_length c y l.month;
    }

abbrev pub decreases-months : goal.decreases-months
decreases-months g l = 14 - l.month
