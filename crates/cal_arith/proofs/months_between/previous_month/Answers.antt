use Rattle.std.proofs.Common.{◌≡◌, pos, ◌-◌, ◌+◌, ◌-ℤ◌, ap, sym, ◌∙◌, arith}
use Rattle.cal_types.specs.CalendarList.{month_number}
use Rattle.cal_arith.proofs.DifferenceSteps.{month_number-next_place, month_number-year_end}
use Rattle.cal_arith.proofs.WordLemmas.{field-rule, joined, previous_word}
use Rattle.cal_arith.proofs.months_between.previous_month.Goals as goal

pub returns-then-here-gt1-clause-next : goal.returns-then-here-gt1-clause-next
returns-then-here-gt1-clause-next g c =
    let list = (g.C.YearShapes.years c.args.cal.now).list in let y = (g.C.YearShapes.years c.args.cal.now).extended c.args.here.year in
    let same : c.args.here.month - 1 + 1 ≡ c.args.here.month = omega arith in
    sym (ap (month_number list y) same) ∙ month_number-next_place list y (c.args.here.month - 1) (omega arith)

pub returns-clause-month : goal.returns-clause-month
returns-clause-month g c =
    let z = (g.C.YearShapes.years c.args.cal.now).extended c.given_year_counted-year.result in
    let count = (g.met.C.YearShapes.lawful c.args.cal.now).count z in
    record { year = c.given_year_counted-year.ensures.given; place = omega (arith, c.months_in_provided_year.ensures, count) }

pub returns-clause-next : goal.returns-clause-next
returns-clause-next g c =
    let list = (g.C.YearShapes.years c.args.cal.now).list in let y = (g.C.YearShapes.years c.args.cal.now).extended c.args.here.year in
    let z = (g.C.YearShapes.years c.args.cal.now).extended c.given_year_counted-year.result in
    let year : z ≡ y -ℤ pos 1 = c.given_year_counted-year.ensures.number ∙ previous_word _ _ c.extended_from_year_info.ensures (field-rule _ c.requires.range) in
    let first : c.args.here.month ≡ 1 = omega (arith, c.requires.month.place) in
    let count = (g.met.C.YearShapes.lawful c.args.cal.now).count z in
    ap (month_number list y) first ∙ month_number-year_end list z y c.months_in_provided_year.result (omega (arith, c.months_in_provided_year.ensures, count)) c.months_in_provided_year.ensures (joined _ _ 1 year)
