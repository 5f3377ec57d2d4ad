use Rattle.std.proofs.Common.{◌≡◌, ◌∙◌, ◌≤◌, ◌*◌, pos, ◌+ℤ◌, to_z, of_z, w32, subst, sym, arith}
use Rattle.cal_days.specs.Day.{IsRuleYear}
use Rattle.cal_arith.proofs.MonthSteps.{months-between}
use Rattle.cal_arith.proofs.MonthSums.{ahead_word, ahead_rule, months_of_years, left_over, fewer_left, bound_left}
use Rattle.cal_arith.proofs.WordLemmas.{later}
use Rattle.cal_arith.proofs.months.years_ahead.Given.{Over}
use Rattle.cal_arith.proofs.months.years_ahead.Goals.{After-extended_from_year_info-number, After-given_year-there, After-months_between_years-between}
use Rattle.cal_arith.proofs.months.years_ahead.Goals as goal

-- the year so many years ahead
rule : (g : Over) (c : After-extended_from_year_info-number g) → IsRuleYear (to_z w32 (of_z w32 (to_z w32 (of_z w32 c.extended_from_year_info-number.result) +ℤ to_z w32 c.args.ahead)))
rule g c =
    let word = ahead_word c.extended_from_year_info-number.result _ c.args.ahead c.args.months c.extended_from_year_info-number.ensures c.requires.year.range c.requires.range c.requires.few in
    subst IsRuleYear (sym word) (ahead_rule _ c.args.ahead c.args.months c.requires.year.range c.requires.range c.requires.few)

pub given_year-there-requires-clause-from : goal.given_year-there-requires-clause-from
given_year-there-requires-clause-from g c = (rule g (goal.at.given_year-there-requires-clause-from g c).After-extended_from_year_info-number).0

pub given_year-there-requires-clause-to : goal.given_year-there-requires-clause-to
given_year-there-requires-clause-to g c = (rule g (goal.at.given_year-there-requires-clause-to g c).After-extended_from_year_info-number).1

ahead : (g : Over) (c : After-given_year-there g) → (g.C.YearShapes.years c.args.cal.now).extended c.given_year-there.result ≡ (g.C.YearShapes.years c.args.cal.now).extended c.args.year +ℤ pos c.args.ahead
ahead g c = c.given_year-there.ensures.number ∙ ahead_word c.extended_from_year_info-number.result _ c.args.ahead c.args.months c.extended_from_year_info-number.ensures c.requires.year.range c.requires.range c.requires.few

-- the months up to there are from 12 to 13 for each year
counted : (g : Over) (c : After-months_between_years-between g) → (g.C.YearShapes.years c.args.cal.now).extended c.given_year-there.result ≡ (g.C.YearShapes.years c.args.cal.now).extended c.args.year +ℤ pos c.args.ahead
    → (12 * c.args.ahead ≤ c.months_between_years-between.result) × (c.months_between_years-between.result ≤ 13 * c.args.ahead)
counted g c year =
    let years = g.C.YearShapes.years c.args.cal.now in let here = years.extended c.args.year in let there = years.extended c.given_year-there.result in
    let bounds = months-between years.list (g.met.C.YearShapes.lawful c.args.cal.now) here there (later here there c.args.ahead year) in
    months_of_years here there _ _ c.args.ahead c.months_between_years-between.result year bounds c.months_between_years-between.ensures

pub returns-then-between-months-clause-there : goal.returns-then-between-months-clause-there
returns-then-between-months-clause-there g c few =
    let s = goal.at.returns-then-between-months-clause-there g c in
    let most = (counted g s.After-months_between_years-between (ahead g s.After-given_year-there)).1 in
    absurd (omega (arith, few, c.if-between-months.true, most))

pub returns-clause-later : goal.returns-clause-later
returns-clause-later g c =
    let s = goal.at.returns-clause-later g c in
    let there = ahead g s.After-given_year-there in
    let least = (counted g s.After-months_between_years-between there).0 in
    let within : c.months_between_years-between.result ≤ c.args.months = omega (arith, c.if-between-months.false) in
    record {
      given = c.given_year-there.ensures.given;
      moved = left_over _ _ c.months_between_years-between.result c.args.months c.months_between_years-between.ensures within;
      fewer = fewer_left c.args.ahead c.months_between_years-between.result c.args.months least c.requires.some within;
      bound = bound_left _ _ c.args.ahead c.months_between_years-between.result c.args.months there least within;
    }

pub months_between_years-between-requires-clause-order : goal.months_between_years-between-requires-clause-order
months_between_years-between-requires-clause-order g c = later _ _ c.args.ahead (ahead g (goal.at.months_between_years-between-requires-clause-order g c).After-given_year-there)
