-- The bits of the months with 30 days, one after another from the last month on.
use Rattle.std.proofs.Common.{◌≡◌, ◌∙◌, ℕ, suc, ◌+◌, ◌-◌, ◌*◌, ◌/◌, ◌%◌, ◌^◌, ◌≤◌, refl, sym, ap, arith, List, ℤ, pos}
use native.Mathlib.Numerals.{unary_clauses}
use Rattle.std.proofs.Math.Nat.{div-div-eq-div-mul}
use Rattle.cal_days.proofs.Signed.{by_lt}
use Rattle.cal_types.proofs.MonthCases.{by_month}
use Rattle.cal_hijri.specs.HijriMonths.{month_days}
use Rattle.cal_hijri.specs.MonthStarts.{days_between}

-- a month has 30 days where its bit is set
pub month_days-bit : (long i : ℕ) → 1 ≤ i → i ≤ 12 → 29 + long / 2 ^ (i - 1) % 2 ≡ month_days long i
month_days-bit long = by_month (λ i. 29 + long / 2 ^ (i - 1) % 2 ≡ month_days long i) (omega arith) refl refl refl refl refl refl refl refl refl refl refl

-- a bit more below moves the others up
halves : (long b k : ℕ) → b ≤ 1 → (2 * long + b) / 2 ^ (suc k) ≡ long / 2 ^ k
halves long b k h =
    let half : (2 * long + b) / 2 ≡ long = omega arith in
    let double : 2 ^ (suc k) ≡ 2 * 2 ^ k = simp unary_clauses (omega arith) in
    rw double (sym (div-div-eq-div-mul (2 * long + b) 2 (2 ^ k)) ∙ ap (λ (n : ℕ). n / 2 ^ k) half)

-- so the bits of the months from the place before on are right
pub bits-next : (starts : List ℤ) (long m b : ℕ) → 1 ≤ m → b ≤ 1 → pos (29 + b) ≡ days_between starts m → ((i : ℕ) → m + 1 ≤ i → i ≤ 12 → pos (29 + long / 2 ^ (i - m - 1) % 2) ≡ days_between starts i) → (i : ℕ) → m - 1 + 1 ≤ i → i ≤ 12 → pos (29 + (2 * long + b) / 2 ^ (i - (m - 1) - 1) % 2) ≡ days_between starts i
bits-next starts long m b some bit here others i low high =
    by_lt {P = pos (29 + (2 * long + b) / 2 ^ (i - (m - 1) - 1) % 2) ≡ days_between starts i} m i
    (λ lt.
    let e : i - (m - 1) - 1 ≡ suc (i - m - 1) = omega arith in
    rw e (ap (λ (q : ℕ). pos (29 + q % 2)) (halves long b (i - m - 1) bit) ∙ others i (omega arith) high))
    (λ le.
    let e : i - (m - 1) - 1 ≡ 0 = omega arith in
    let same : i ≡ m = omega arith in
    let lowest : (2 * long + b) / 1 % 2 ≡ b = omega arith in
    rw (e, same) (ap (λ (q : ℕ). pos (29 + q)) lowest ∙ here))

-- the bit of the month before is twice a month's
pub bits-double : (m : ℕ) → 1 ≤ m → m ≤ 12 → 2 ^ (12 - (m - 1)) ≡ 2 * 2 ^ (12 - m)
bits-double = by_month (λ m. 2 ^ (12 - (m - 1)) ≡ 2 * 2 ^ (12 - m)) refl refl refl refl refl refl refl refl refl refl refl refl
