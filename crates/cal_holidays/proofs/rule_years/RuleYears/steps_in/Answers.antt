use Rattle.std.proofs.Common.{◌≡◌, ◌&&◌, rules, sym, subst, arith, ℤ, FitsSigned, to_z, of_z, w32}
use Rattle.cal_days.proofs.Signed.{signed}
use Rattle.cal_types.proofs.DateTests.{and-right}
use Rattle.cal_holidays.specs.Moving.{IsFirstFrom, IsLastYear}
use Rattle.cal_holidays.specs.Observing.{is_year}
use Rattle.cal_holidays.proofs.ObservingLemmas.{steps-of}
use Rattle.cal_holidays.proofs.rule_years.RuleYears.steps_in.Goals as goal

pub returns : goal.returns
returns c =
    let years = c.args.self in
    let span = c.args.span in
    let low : to_z w32 (of_z w32 span.low) ≡ span.low = omega (arith, signed, c.requires.low) in
    let fits_high : FitsSigned w32 span.high = search rules in
    let high : to_z w32 (of_z w32 span.high) ≡ span.high = omega (arith, signed) in
    let fits_first : FitsSigned w32 c.first_from.result = search rules in
    let first : to_z w32 (of_z w32 c.first_from.result) ≡ c.first_from.result = omega (arith, signed) in
    let fits_last : FitsSigned w32 c.earlier_year.result = search rules in
    let last : to_z w32 (of_z w32 c.earlier_year.result) ≡ c.earlier_year.result = omega (arith, signed) in
    let begin = subst (λ (y : ℤ). IsFirstFrom years.since years.every span.low y) (sym first)
    (subst (λ (l : ℤ). IsFirstFrom years.since years.every l c.first_from.result) low c.first_from.ensures) in
    let end = subst (λ (y : ℤ). IsLastYear years.until span.high y) (sym last)
    (subst (λ (h : ℤ). IsLastYear years.until h c.earlier_year.result) high c.earlier_year.ensures) in
    steps-of years.since years.until years.every span.low span.high _ _ (and-right (is_year years.since && is_year years.until) _ c.requires.proper) begin end
