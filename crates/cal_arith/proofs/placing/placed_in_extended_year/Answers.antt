use Rattle.std.proofs.Common.{◌≡◌, ℤ, to_z, of_z, w32, ap, ◌∙◌, arith}
use Rattle.cal_days.specs.Day.{IsRuleYear}
use Rattle.cal_days.proofs.Signed.{signed}
use Rattle.cal_types.specs.Placing.{placed_in_year}
use Rattle.cal_arith.proofs.GivenLemmas.{given_by}
use Rattle.cal_arith.proofs.placing.placed_in_extended_year.Goals as goal

pub returns-clause-placed : goal.returns-clause-placed
returns-clause-placed g c =
    let years = g.C.YearShapes.years c.args.cal.now in
    let same : to_z w32 (of_z w32 c.args.year) ≡ c.args.year = omega (arith, signed) in
    let rule : IsRuleYear c.args.year = (omega (arith, signed, c.requires), omega (arith, signed, c.requires)) in
    let given = given_by years (g.met.C.YearShapes.numbered c.args.cal.now) c.year_info_from_extended.result _ c.args.year c.year_info_from_extended.ensures same rule in
    c.placed_in_year.ensures.placed ∙ ap (λ (y : ℤ). placed_in_year years.list y c.args.month c.args.day) given.1
