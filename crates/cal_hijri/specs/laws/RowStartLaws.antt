-- A rule year is its own nearest one, and the first day of a row is near the mean year.
use Rattle.std.proofs.Common.{◌≡◌, ℕ, ◌≤◌, ◌<◌, ◌%◌, min, refl, arith, ℤ, pos}
use Rattle.std.specs.Prelude.{false, int_lt, neg_ℤ}
use Rattle.cal_days.proofs.Signed.{signed, by_bool}
use Rattle.cal_days.specs.Day.{IsRuleYear}
use Rattle.cal_hijri.specs.HijriMonths.{IsNearMean}
use Rattle.cal_hijri.specs.RowStarts.{nearest_rule_year, start_after}

pub nearest_rule_year-same : (y : ℤ) → IsRuleYear y → nearest_rule_year y ≡ y
nearest_rule_year-same y rule =
    let low : int_lt y (neg_ℤ (pos 8000000)) ≡ false = by_bool {P = int_lt y (neg_ℤ (pos 8000000)) ≡ false} (int_lt y (neg_ℤ (pos 8000000))) (λ on. absurd (omega (arith, signed))) (λ off. off) in
    let high : int_lt (pos 8000000) y ≡ false = by_bool {P = int_lt (pos 8000000) y ≡ false} (int_lt (pos 8000000) y) (λ on. absurd (omega (arith, signed))) (λ off. off) in
    rw (low, high) refl

pub start-near : (y : ℤ) (offset : ℕ) → IsNearMean y (start_after y offset)
start-near y offset =
    let few : min offset 10 ≤ 10 = omega arith in
    (omega (arith, signed), omega (arith, signed, few))

-- the bits above the twelfth month's are of no month
pub row-twelve : (bits : ℕ) → bits % 4096 < 4096
row-twelve bits = omega arith
