use Rattle.std.proofs.Common.{◌≡◌, refl, subst, sym}
use Rattle.cal_days.specs.Day.{IsCoveredYear}
use Rattle.cal_arith.specs.Given.{IsGiven}
use Rattle.cal_arith.proofs.GivenLemmas.{given_by}
use Rattle.cal_arith.proofs.WordLemmas.{word, covered-rule}
use Rattle.cal_arith.proofs.constructing.date_of_input.Given.{Over}
use Rattle.cal_arith.proofs.constructing.date_of_input.Goals.{After-year_info_from_extended}
use Rattle.cal_arith.proofs.constructing.date_of_input.Goals as goal

-- the year of the number that was read
given : (g : Over) (c : After-year_info_from_extended g) → IsCoveredYear c.in-Ok.number → IsGiven (g.C.YearShapes.years c.args.cal.now) c.year_info_from_extended.result × ((g.C.YearShapes.years c.args.cal.now).extended c.year_info_from_extended.result ≡ c.in-Ok.number)
given g c covered =
    let rule = covered-rule c.in-Ok.number covered in
    given_by (g.C.YearShapes.years c.args.cal.now) (g.met.C.YearShapes.numbered c.args.cal.now) _ _ c.in-Ok.number c.year_info_from_extended.ensures (word c.in-Ok.number c.in-Ok.number refl rule) rule

pub made_in_year-requires-clause-range : goal.made_in_year-requires-clause-range
made_in_year-requires-clause-range g c = subst IsCoveredYear (sym (given g c c.in-Ok.ensures.range).1) c.in-Ok.ensures.range

pub made_in_year-requires-clause-year : goal.made_in_year-requires-clause-year
made_in_year-requires-clause-year g c = (given g c c.in-Ok.ensures.range).0
