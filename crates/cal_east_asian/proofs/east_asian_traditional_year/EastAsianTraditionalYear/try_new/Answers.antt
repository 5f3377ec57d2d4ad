use Rattle.std.proofs.Common.{◌≡◌, ℕ, ℤ, refl, sym, subst, to_z, of_z, w32, arith}
use Rattle.std.proofs.lemmas.Grind.{common_steps}
use Rattle.cal_days.specs.Day.{IsRuleYear}
use Rattle.cal_days.proofs.Signed.{signed}
use Rattle.cal_east_asian.specs.EastAsianYear.{IsNewYear}
use Rattle.cal_east_asian.specs.MonthStarts.{HaveMonthLengths, start_at}
use Rattle.cal_east_asian.proofs.east_asian_traditional_year.EastAsianTraditionalYear.try_new.Goals as goal

pub returns-clause-some : goal.returns-clause-some
returns-clause-some c =
    let p = c.in_ok-place.place in
    let starts = c.args.month_starts in
    let year = c.is_new_year.ensures.0 c.if-not-is_new_year.false in
    let kept : to_z w32 (of_z w32 c.args.related_iso) ≡ c.args.related_iso = omega (arith, signed) in
    let first = subst (λ (y : ℤ). IsNewYear y (start_at starts 0)) kept (subst (λ (d : ℤ). IsNewYear (to_z w32 (of_z w32 c.args.related_iso)) d) c.first_day-new_year.ensures year.1) in
    let rule = subst (λ (y : ℤ). IsRuleYear y) kept year.0 in
    let lengths = subst (λ (n : ℕ). HaveMonthLengths starts 0 n) c.months_in_year.ensures.value (c.in_ok-long_months.ensures.some.0 refl) in
    (λ h. (p, sym c.in_ok-place.ensures, record { year = rule; start = first; lengths = lengths }), λ h. refl)

pub returns-clause-lengths : goal.returns-clause-lengths
returns-clause-lengths c = grind (arith, common_steps)

pub from_parts-requires-clause-start : goal.from_parts-requires-clause-start
from_parts-requires-clause-start c = grind (arith, common_steps)

pub returns-in_err-long_months-clause-some : goal.returns-in_err-long_months-clause-some
returns-in_err-long_months-clause-some c = grind (arith, common_steps)

pub from_parts-requires-clause-number : goal.from_parts-requires-clause-number
from_parts-requires-clause-number c = grind (arith, common_steps)
