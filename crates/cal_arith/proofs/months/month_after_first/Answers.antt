use Rattle.std.proofs.Common.{◌≤◌, ◌+◌, arith}
use Rattle.cal_types.proofs.ListLemmas.{month_number-place}
use Rattle.cal_arith.proofs.MonthSums.{place_reached}
use Rattle.cal_arith.proofs.months.month_after_first.Goals as goal

pub returns-clause-moved : goal.returns-clause-moved
returns-clause-moved g c =
    let years = g.C.YearShapes.years c.args.cal.now in
    let one : 1 ≤ c.years.left + 1 = omega arith in
    record {
      place = omega (arith, c.years.invariant.count);
      moved = place_reached _ _ _ c.years.left c.args.months (month_number-place years.list (years.extended c.years.later) (c.years.left + 1) one) c.years.invariant.moved;
    }
