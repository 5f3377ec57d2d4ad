use Rattle.std.proofs.Common.{◌≡◌, ◌≤◌, ◌-◌, ◌∙◌, ℕ, ℤ, pos, ◌+ℤ◌, ◌-ℤ◌, to_z, of_z, w32, ap, subst, sym, arith}
use Rattle.cal_days.specs.Day.{IsRuleYear}
use Rattle.cal_types.specs.CalendarList.{month_count, month_number}
use Rattle.cal_types.proofs.ListLemmas.{month_number-place, month_number-next}
use Rattle.cal_arith.proofs.MonthSums.{near_rule, previous_rule, place_before, place_in_year_before}
use Rattle.cal_arith.proofs.WordLemmas.{joined, previous_word}
use Rattle.cal_arith.proofs.months.months_earlier.Given.{Over}
use Rattle.cal_arith.proofs.months.months_earlier.Goals.{After-extended_from_year_info}
use Rattle.cal_arith.proofs.months.months_earlier.Goals as goal

pub returns-then-months-from-clause-moved : goal.returns-then-months-from-clause-moved
returns-then-months-from-clause-moved g c =
    let years = g.C.YearShapes.years c.args.cal.now in let here = years.extended c.args.year in
    let place = c.requires.from.month.place in
    let some : 1 ≤ c.args.month - c.args.months = omega arith in
    let within : c.args.months ≤ c.args.month = omega arith in
    record {
      place = omega (arith, place);
      moved = place_before _ _ _ c.args.month c.args.months (month_number-place years.list here c.args.month place.0) (month_number-place years.list here (c.args.month - c.args.months) some) within;
    }

-- the year before
rule : (g : Over) (c : After-extended_from_year_info g) → IsRuleYear (to_z w32 (of_z w32 (to_z w32 (of_z w32 c.extended_from_year_info.result) -ℤ pos 1)))
rule g c = subst IsRuleYear (sym (previous_word c.extended_from_year_info.result _ c.extended_from_year_info.ensures (near_rule _ c.requires.from.range))) (previous_rule _ c.requires.from.range)

pub given_year-before-requires-clause-from : goal.given_year-before-requires-clause-from
given_year-before-requires-clause-from g c = (rule g (goal.at.given_year-before-requires-clause-from g c).After-extended_from_year_info).0

pub given_year-before-requires-clause-to : goal.given_year-before-requires-clause-to
given_year-before-requires-clause-to g c = (rule g (goal.at.given_year-before-requires-clause-to g c).After-extended_from_year_info).1

pub returns-then-back-count-clause-moved : goal.returns-then-back-count-clause-moved
returns-then-back-count-clause-moved g c =
    let years = g.C.YearShapes.years c.args.cal.now in let here = years.extended c.args.year in
    let there = years.extended c.given_year-before.result in
    let year = c.given_year-before.ensures.number ∙ previous_word c.extended_from_year_info.result here c.extended_from_year_info.ensures (near_rule here c.requires.from.range) in
    let count : month_count years.list there ≡ c.from-count.result = omega arith in
    let first = ap (λ (y : ℤ). month_number years.list y 1) (joined there here 1 year) in
    let j = c.from-count.result - (c.args.months - c.from-2.result) in
    let some : 1 ≤ j = omega arith in
    let out : c.from-2.result ≤ c.args.months = omega arith in
    let within : c.args.months - c.from-2.result ≤ c.from-count.result = omega arith in
    let joins : month_number years.list here 1 ≡ month_number years.list there 1 +ℤ pos c.from-count.result = first ∙ month_number-next years.list there ∙ ap (λ (n : ℕ). month_number years.list there 1 +ℤ pos n) count in
    record {
      place = omega (arith, count);
      moved = place_in_year_before _ _ _ _ c.args.month c.from-2.result c.from-count.result c.args.months (month_number-place years.list here c.args.month c.requires.from.month.place.0) c.from-2.ensures joins (month_number-place years.list there j some) out within;
    }
