use Rattle.std.proofs.Common.{◌≡◌, ◌∙◌, ◌≤◌, ◌+◌, ◌*◌, ◌/◌, ◌<◌, pos, ◌+ℤ◌, ◌-ℤ◌, ◌≤ℤ◌, to_z, of_z, w32, subst, sym, arith}
use Rattle.cal_days.specs.Day.{IsRuleYear}
use Rattle.cal_types.proofs.ListLemmas.{month_number-place}
use Rattle.cal_arith.proofs.MonthSteps.{months-between}
use Rattle.cal_arith.proofs.MonthSums.{before_word, before_rule, months_of_years, forward_fits, forward_within, forward_range, place_forward}
use Rattle.cal_arith.proofs.WordLemmas.{joined, later}
use Rattle.cal_arith.proofs.months.month_from_before.Given.{Over}
use Rattle.cal_arith.proofs.months.month_from_before.Goals.{After-extended_from_year_info, After-given_year-start, After-months_between_years-between}
use Rattle.cal_arith.proofs.months.month_from_before.Goals as goal

-- the year from which is counted
rule : (g : Over) (c : After-extended_from_year_info g) → IsRuleYear (to_z w32 (of_z w32 (to_z w32 (of_z w32 (to_z w32 (of_z w32 c.extended_from_year_info.result) -ℤ to_z w32 (c.args.months / 12))) -ℤ pos 1)))
rule g c =
    let word = before_word c.extended_from_year_info.result _ c.args.months c.extended_from_year_info.ensures c.requires.from.range c.requires.months in
    subst IsRuleYear (sym word) (before_rule _ c.args.months c.requires.from.range c.requires.months)

pub given_year-start-requires-clause-from : goal.given_year-start-requires-clause-from
given_year-start-requires-clause-from g c = (rule g (goal.at.given_year-start-requires-clause-from g c).After-extended_from_year_info).0

pub given_year-start-requires-clause-to : goal.given_year-start-requires-clause-to
given_year-start-requires-clause-to g c = (rule g (goal.at.given_year-start-requires-clause-to g c).After-extended_from_year_info).1

start : (g : Over) (c : After-given_year-start g) → (g.C.YearShapes.years c.args.cal.now).extended c.args.year ≡ (g.C.YearShapes.years c.args.cal.now).extended c.given_year-start.result +ℤ pos (c.args.months / 12 + 1)
start g c =
    let here = (g.C.YearShapes.years c.args.cal.now).extended c.args.year in
    joined _ here (c.args.months / 12 + 1) (c.given_year-start.ensures.number ∙ before_word c.extended_from_year_info.result here c.args.months c.extended_from_year_info.ensures c.requires.from.range c.requires.months)

-- it begins before this one
earlier : (g : Over) (c : After-given_year-start g) → (g.C.YearShapes.years c.args.cal.now).extended c.given_year-start.result ≤ℤ (g.C.YearShapes.years c.args.cal.now).extended c.args.year
earlier g c = later _ _ (c.args.months / 12 + 1) (start g c)

pub months_between_years-between-requires-clause-order : goal.months_between_years-between-requires-clause-order
months_between_years-between-requires-clause-order g c = earlier g (goal.at.months_between_years-between-requires-clause-order g c).After-given_year-start

-- the months up to this year are from 12 to 13 for each
counted : (g : Over) (c : After-months_between_years-between g) → (g.C.YearShapes.years c.args.cal.now).extended c.args.year ≡ (g.C.YearShapes.years c.args.cal.now).extended c.given_year-start.result +ℤ pos (c.args.months / 12 + 1)
    → (12 * (c.args.months / 12 + 1) ≤ c.months_between_years-between.result) × (c.months_between_years-between.result ≤ 13 * (c.args.months / 12 + 1))
counted g c year =
    let years = g.C.YearShapes.years c.args.cal.now in let here = years.extended c.args.year in let there = years.extended c.given_year-start.result in
    let bounds = months-between years.list (g.met.C.YearShapes.lawful c.args.cal.now) there here (later there here (c.args.months / 12 + 1) year) in
    months_of_years there here _ _ (c.args.months / 12 + 1) c.months_between_years-between.result year bounds c.months_between_years-between.ensures

pub overflow_add-between : goal.overflow_add-between
overflow_add-between g c =
    let s = goal.at.overflow_add-between g c in
    let small : c.from.result < 256 = omega arith in
    forward_fits c.args.months c.months_between_years-between.result c.from.result (counted g s.After-months_between_years-between (start g s.After-given_year-start)).1 c.requires.months small

pub overflow_sub-between : goal.overflow_sub-between
overflow_sub-between g c =
    let s = goal.at.overflow_sub-between g c in
    forward_within _ _ _ (counted g s.After-months_between_years-between (start g s.After-given_year-start)).0

pub month_after_first-requires-clause-range : goal.month_after_first-requires-clause-range
month_after_first-requires-clause-range g c =
    let s = goal.at.month_after_first-requires-clause-range g c in
    let here = (start g s.After-given_year-start) in
    let small : c.from.result < 256 = omega arith in
    forward_range _ _ c.args.months c.months_between_years-between.result c.from.result here (counted g s.After-months_between_years-between here).1 c.requires.from.range c.requires.months small

pub returns-clause-moved : goal.returns-clause-moved
returns-clause-moved g c =
    let s = goal.at.returns-clause-moved g c in
    let years = g.C.YearShapes.years c.args.cal.now in
    let there = c.month_after_first.ensures.moved in
    let one = c.requires.from.month.place.0 in
    record {
      place = there.place;
      moved = place_forward _ _ _ _ c.args.month c.from.result c.months_between_years-between.result c.args.months (month_number-place years.list (years.extended c.args.year) c.args.month one) one c.from.ensures c.months_between_years-between.ensures there.moved
          (forward_within _ _ _ (counted g s.After-months_between_years-between (start g s.After-given_year-start)).0);
    }
