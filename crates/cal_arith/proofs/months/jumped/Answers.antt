use Rattle.std.proofs.Common.{◌∙◌, ℕ, ◌≤◌, ℤ, pos, ◌+ℤ◌, to_z, of_z, w32, ap, subst, sym, arith}
use Rattle.cal_days.specs.Day.{IsRuleYear}
use Rattle.cal_types.specs.CalendarList.{month_number}
use Rattle.cal_types.proofs.ListLemmas.{month_number-next}
use Rattle.cal_arith.proofs.MonthSums.{following_rule, left_over, fewer_left, bound_left}
use Rattle.cal_arith.proofs.WordLemmas.{following_word}
use Rattle.cal_arith.proofs.months.jumped.Given.{Over}
use Rattle.cal_arith.proofs.months.jumped.Goals.{After-extended_from_year_info-number}
use Rattle.cal_arith.proofs.months.jumped.Goals as goal

rule : (g : Over) (c : After-extended_from_year_info-number g) → IsRuleYear (to_z w32 (of_z w32 (to_z w32 (of_z w32 c.extended_from_year_info-number.result) +ℤ pos 1)))
rule g c =
    let word = following_word c.extended_from_year_info-number.result _ c.extended_from_year_info-number.ensures c.requires.year.range in
    subst IsRuleYear (sym word) (following_rule _ c.args.months c.requires.year.range c.requires.range)

pub given_year-requires-clause-from : goal.given_year-requires-clause-from
given_year-requires-clause-from g c = (rule g (goal.at.given_year-requires-clause-from g c).After-extended_from_year_info-number).0

pub given_year-requires-clause-to : goal.given_year-requires-clause-to
given_year-requires-clause-to g c = (rule g (goal.at.given_year-requires-clause-to g c).After-extended_from_year_info-number).1

pub returns : goal.returns
returns g c =
    let years = g.C.YearShapes.years c.args.cal.now in let here = years.extended c.args.year in
    let count = sym c.requires.count in
    let least = subst (λ (n : ℕ). 12 ≤ n) count ((g.met.C.YearShapes.lawful c.args.cal.now).count here).0 in
    let next = c.given_year.ensures.number ∙ following_word c.extended_from_year_info-number.result here c.extended_from_year_info-number.ensures c.requires.year.range in
    let joins = ap (λ (y : ℤ). month_number years.list y 1) next ∙ month_number-next years.list here ∙ ap (λ (n : ℕ). month_number years.list here 1 +ℤ pos n) count in
    record {
      given = c.given_year.ensures.given;
      moved = left_over _ _ c.args.count c.args.months joins c.requires.within;
      fewer = fewer_left 1 c.args.count c.args.months least (omega arith) c.requires.within;
      bound = bound_left _ here 1 c.args.count c.args.months next least c.requires.within;
    }
