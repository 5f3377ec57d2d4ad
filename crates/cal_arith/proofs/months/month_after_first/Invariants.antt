use Rattle.std.proofs.Common.{◌≡◌, pos, ◌+ℤ◌, ◌*ℤ◌, ◌≤ℤ◌}
use Rattle.cal_types.specs.CalendarList.{month_count, month_number}
use Rattle.cal_arith.specs.Given.{IsGiven}
use Rattle.cal_arith.proofs.months.month_after_first.Given as goal

-- the months left lead from the first of the year to the same month, and each year takes 12 of them at least
abbrev pub invariant-years : goal.invariant-years
invariant-years g l =
    let years = g.C.YearShapes.years l.cal in let number = years.extended in
    record {
      given : IsGiven years l.later;
      moved : month_number years.list (number l.later) 1 +ℤ pos l.left ≡ month_number years.list (number l.fn.year) 1 +ℤ pos l.fn.months;
      count : l.count ≡ month_count years.list (number l.later);
      bound : (pos 12 *ℤ number l.later +ℤ pos l.left) ≤ℤ (pos 12 *ℤ number l.fn.year +ℤ pos l.fn.months);
    }

abbrev pub decreases-years : goal.decreases-years
decreases-years g l = l.left
