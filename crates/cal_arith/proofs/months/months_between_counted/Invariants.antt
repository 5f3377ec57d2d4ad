use Rattle.std.proofs.Common.{◌≡◌, pos, ◌+ℤ◌, ◌-ℤ◌, ◌≤ℤ◌}
use Rattle.cal_types.specs.CalendarList.{month_number}
use Rattle.cal_days.specs.Sums.{years_up}
use Rattle.cal_arith.proofs.months.months_between_counted.Given as goal

-- the months counted so far are those of the years before this one, and no more years were looked up than these
abbrev pub invariant-years : goal.invariant-years
invariant-years g l =
    let years = g.C.YearShapes.years l.cal in let first = years.extended l.fn.first in
    record {
      counted : month_number years.list l.number 1 ≡ month_number years.list first 1 +ℤ pos l.count;
      low : first ≤ℤ l.number;
      high : l.number ≤ℤ years.extended l.fn.last;
      ticks : pos l.steps ≤ℤ (pos l.fn.steps +ℤ (l.number -ℤ first));
    }

abbrev pub decreases-years : goal.decreases-years
decreases-years g l = years_up ((g.C.YearShapes.years l.cal).extended l.fn.last -ℤ l.number)
