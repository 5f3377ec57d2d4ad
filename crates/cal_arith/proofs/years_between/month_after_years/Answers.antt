use Rattle.std.proofs.Common.{◌≡◌, ℤ, ◌+ℤ◌, to_z, of_z, w32, ap, sym, ◌∙◌, subst}
use Rattle.cal_days.specs.Day.{IsFieldYear, IsRuleYear}
use Rattle.cal_types.specs.Difference.{toward}
use Rattle.cal_types.proofs.DifferenceLemmas.{years-between}
use Rattle.cal_arith.specs.Dates.{date_of}
use Rattle.cal_arith.specs.Directions.{is_backward}
use Rattle.cal_arith.proofs.WordLemmas.{field-rule, word}
use Rattle.cal_arith.proofs.years_between.month_after_years.Given.{Over}
use Rattle.cal_arith.proofs.years_between.month_after_years.Goals.{After-extended_from_year_info-year, After-toward_year}
use Rattle.cal_arith.proofs.years_between.month_after_years.Goals as goal

module _ (g : Over) (c : After-extended_from_year_info-year g) where
  abbrev there : ℤ
  there = (g.C.YearShapes.years c.args.cal.now).extended c.args.from.year +ℤ toward (is_backward c.args.direction) c.args.years

  field : IsFieldYear there
  field = years-between (g.C.YearShapes.years c.args.cal.now).list (is_backward c.args.direction) (date_of (g.C.YearShapes.years c.args.cal.now) c.args.from) (date_of (g.C.YearShapes.years c.args.cal.now) c.args.to) c.args.years c.requires.within c.requires.from_range c.requires.to_range

  year_same : to_z w32 (of_z w32 c.extended_from_year_info-year.result) ≡ (g.C.YearShapes.years c.args.cal.now).extended c.args.from.year
  year_same = word _ _ c.extended_from_year_info-year.ensures c.requires.from.year.range

pub toward_year-requires-clause-result : goal.toward_year-requires-clause-result
toward_year-requires-clause-result g c = subst (λ (y : ℤ). IsFieldYear (y +ℤ toward (is_backward c.args.direction) c.args.years)) (sym (year_same g c)) (field g c)

-- the year that is asked for is a rule year, and is kept
module _ (g : Over) (c : After-toward_year g) (s : After-extended_from_year_info-year g) (sum : c.toward_year.result ≡ there g s) where
  rule : IsRuleYear (there g s)
  rule = field-rule (there g s) (field g s)

  asked : to_z w32 (of_z w32 c.toward_year.result) ≡ there g s
  asked = word c.toward_year.result (there g s) sum rule

  handed : IsRuleYear (to_z w32 (of_z w32 c.toward_year.result))
  handed = subst IsRuleYear (sym asked) rule

pub given_year_counted-reached-requires-clause-from : goal.given_year_counted-reached-requires-clause-from
given_year_counted-reached-requires-clause-from g c =
    let at = goal.at.given_year_counted-reached-requires-clause-from g c in let s = at.After-extended_from_year_info-year in
    let sum = c.toward_year.ensures ∙ ap (λ (y : ℤ). y +ℤ toward (is_backward c.args.direction) c.args.years) (year_same g s) in
    (handed g at.After-toward_year s sum).0

pub given_year_counted-reached-requires-clause-to : goal.given_year_counted-reached-requires-clause-to
given_year_counted-reached-requires-clause-to g c =
    let at = goal.at.given_year_counted-reached-requires-clause-to g c in let s = at.After-extended_from_year_info-year in
    let sum = c.toward_year.ensures ∙ ap (λ (y : ℤ). y +ℤ toward (is_backward c.args.direction) c.args.years) (year_same g s) in
    (handed g at.After-toward_year s sum).1

pub returns-clause-month : goal.returns-clause-month
returns-clause-month g c =
    let at = goal.at.returns-clause-month g c in let s = at.After-extended_from_year_info-year in
    let sum = c.toward_year.ensures ∙ ap (λ (y : ℤ). y +ℤ toward (is_backward c.args.direction) c.args.years) (year_same g s) in
    let number = c.given_year_counted-reached.ensures.number ∙ asked g at.After-toward_year s sum in
    record { year = c.given_year_counted-reached.ensures.given; number = number; range = subst IsFieldYear (sym number) (field g s); place = c.stand_in_place.ensures }
