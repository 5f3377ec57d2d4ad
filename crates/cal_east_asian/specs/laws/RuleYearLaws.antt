-- The nearest rule year is a rule year, and a rule year is its own.
use Rattle.std.proofs.Common.{◌≡◌, false, int_lt, refl, arith, ℤ, pos, neg_ℤ}
use Rattle.cal_days.specs.Day.{IsRuleYear}
use Rattle.cal_days.proofs.Signed.{signed, by_bool}
use Rattle.cal_east_asian.specs.RuleYears.{rule_year}

pub rule_year-rule : (y : ℤ) → IsRuleYear (rule_year y)
rule_year-rule y =
    by_bool {P = IsRuleYear (rule_year y)} (int_lt y (neg_ℤ (pos 8000000)))
    (λ low. rw low (omega (arith, signed), omega (arith, signed)))
    (λ other. by_bool {P = IsRuleYear (rule_year y)} (int_lt (pos 8000000) y)
    (λ high. rw (other, high) (omega (arith, signed), omega (arith, signed)))
    (λ in_range. rw (other, in_range) (omega (arith, signed), omega (arith, signed))))

pub rule_year-same : (y : ℤ) → IsRuleYear y → rule_year y ≡ y
rule_year-same y rule =
    let low : int_lt y (neg_ℤ (pos 8000000)) ≡ false = by_bool {P = int_lt y (neg_ℤ (pos 8000000)) ≡ false} (int_lt y (neg_ℤ (pos 8000000))) (λ on. absurd (omega (arith, signed))) (λ off. off) in
    let high : int_lt (pos 8000000) y ≡ false = by_bool {P = int_lt (pos 8000000) y ≡ false} (int_lt (pos 8000000) y) (λ on. absurd (omega (arith, signed))) (λ off. off) in
    rw (low, high) refl
