use Rattle.cal_types.proofs.ListLemmas.{month_number-place}
use Rattle.cal_arith.proofs.MonthSums.{place_after}
use Rattle.cal_arith.proofs.months.months_later.Goals as goal

pub returns-clause-moved : goal.returns-clause-moved
returns-clause-moved g c =
    let years = g.C.YearShapes.years c.args.cal.now in
    let there = c.month_after_first.ensures.moved in
    let one = c.requires.from.month.place.0 in
    record {
      place = there.place;
      moved = place_after _ _ _ c.args.month c.from.result c.args.months (month_number-place years.list (years.extended c.args.year) c.args.month one) one c.from.ensures there.moved;
    }
