use Rattle.std.proofs.Common.{◌≡◌, pos, ◌+ℤ◌, ◌∙◌, arith}
use Rattle.cal_types.proofs.ListLemmas.{first-place}
use Rattle.cal_arith.proofs.DifferenceSteps.{month_number-next_place, month_number-year_end}
use Rattle.cal_arith.proofs.WordLemmas.{field-rule, following_word}
use Rattle.cal_arith.proofs.months_between.next_month.Goals as goal

pub returns-then-here-months_in_provided_year-clause-next : goal.returns-then-here-months_in_provided_year-clause-next
returns-then-here-months_in_provided_year-clause-next g c =
    month_number-next_place (g.C.YearShapes.years c.args.cal.now).list ((g.C.YearShapes.years c.args.cal.now).extended c.args.here.year) c.args.here.month c.requires.month.place.0

pub returns-clause-month : goal.returns-clause-month
returns-clause-month g c = record { year = c.given_year_counted.ensures.given; place = first-place _ _ (g.met.C.YearShapes.lawful c.args.cal.now) }

pub returns-clause-next : goal.returns-clause-next
returns-clause-next g c =
    let last = c.months_in_provided_year.ensures in
    let past = c.if-here-months_in_provided_year.false in
    let year : (g.C.YearShapes.years c.args.cal.now).extended c.given_year_counted.result ≡ (g.C.YearShapes.years c.args.cal.now).extended c.args.here.year +ℤ pos 1 = c.given_year_counted.ensures.number ∙ following_word _ _ c.extended_from_year_info.ensures (field-rule _ c.requires.range) in
    month_number-year_end (g.C.YearShapes.years c.args.cal.now).list ((g.C.YearShapes.years c.args.cal.now).extended c.args.here.year) ((g.C.YearShapes.years c.args.cal.now).extended c.given_year_counted.result) c.args.here.month c.requires.month.place.0
    (omega (arith, last, past, c.requires.month.place)) year
