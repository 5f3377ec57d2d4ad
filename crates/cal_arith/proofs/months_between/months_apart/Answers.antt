use Rattle.std.proofs.Common.{◌≡◌, pos, ◌+◌, ◌+ℤ◌, ◌≤ℤ◌, inl, arith}
use Rattle.std.proofs.lemmas.Int.{by_lt_z}
use Rattle.cal_types.specs.CalendarList.{month_number}
use Rattle.cal_days.proofs.Signed.{signed}
use Rattle.cal_types.proofs.ListLemmas.{month_number-place, month_number-order}
use Rattle.cal_arith.proofs.MonthSteps.{months-between}
use Rattle.cal_arith.proofs.months_between.months_apart.Given.{Over}
use Rattle.cal_arith.proofs.months_between.months_apart.Goals.{Start, After-months_between_counted-between}
use Rattle.cal_arith.proofs.months_between.months_apart.Goals as goal

-- months in order lie in years in order
in_order : (g : Over) (c : Start g) → (g.C.YearShapes.years c.args.cal.now).extended c.args.first.year ≤ℤ (g.C.YearShapes.years c.args.cal.now).extended c.args.last.year
in_order g c =
    let years = g.C.YearShapes.years c.args.cal.now in let y = years.extended c.args.first.year in let z = years.extended c.args.last.year in
    by_lt_z {P = y ≤ℤ z} z y
    (λ lt. absurd (omega (arith, signed, c.requires.order, month_number-order years.list z c.args.last.month y c.args.first.month c.requires.last.place c.requires.first.place (inl lt))))
    (λ le. le)

pub months_between_counted-between-requires-clause-order : goal.months_between_counted-between-requires-clause-order
months_between_counted-between-requires-clause-order g c = in_order g (goal.at.months_between_counted-between-requires-clause-order g c).Start

counts : (g : Over) (c : After-months_between_counted-between g) → month_number (g.C.YearShapes.years c.args.cal.now).list ((g.C.YearShapes.years c.args.cal.now).extended c.args.last.year) c.args.last.month +ℤ pos c.args.first.month ≡ month_number (g.C.YearShapes.years c.args.cal.now).list ((g.C.YearShapes.years c.args.cal.now).extended c.args.first.year) c.args.first.month +ℤ pos (c.months_between_counted-between.result + c.args.last.month)
counts g c =
    let years = g.C.YearShapes.years c.args.cal.now in let y = years.extended c.args.first.year in let z = years.extended c.args.last.year in
    omega (arith, signed, month_number-place years.list z c.args.last.month c.requires.last.place.0, month_number-place years.list y c.args.first.month c.requires.first.place.0, c.months_between_counted-between.ensures.count)

pub overflow_add-result : goal.overflow_add-result
overflow_add-result g c =
    let years = g.C.YearShapes.years c.args.cal.now in
    let most = months-between years.list (g.met.C.YearShapes.lawful c.args.cal.now) (years.extended c.args.first.year) (years.extended c.args.last.year) (in_order g (goal.at.overflow_add-result g c).Start) in
    omega (arith, signed, most, c.months_between_counted-between.ensures.count, c.requires.first.year.range, c.requires.last.year.range)

pub overflow_sub-result : goal.overflow_sub-result
overflow_sub-result g c = omega (arith, signed, counts g (goal.at.overflow_sub-result g c).After-months_between_counted-between, c.requires.order)

pub returns-clause-count : goal.returns-clause-count
returns-clause-count g c = omega (arith, signed, counts g (goal.at.returns-clause-count g c).After-months_between_counted-between, c.requires.order)
