-- The letters of months as the bits of a year.
use Rattle.std.proofs.Common.{◌≡◌, ℕ, zero, suc, ◌+◌, ◌-◌, ◌*◌, ◌/◌, ◌%◌, ◌^◌, ◌<◌, ◌≤◌, ◌==◌, Bool, true, false, cond, List, [], ◌∷◌, length, refl, sym, ap, subst, ◌∙◌, arith, ℤ, pos, ◌+ℤ◌, ◌-ℤ◌}
use Rattle.std.specs.Prelude.{slice_index_or}
use Rattle.std.proofs.Math.Nat.{div-div-eq-div-mul}
use native.Mathlib.Numerals.{unary_clauses}
use Rattle.cal_days.proofs.Signed.{signed}
use Rattle.table_rows.specs.RowYears.{letter_days, starts_of}

-- 1 for `l`
abbrev letter_bit : ℕ → ℕ
letter_bit b = cond (b == 108) 1 0

-- the first month's bit is the lowest
abbrev pub letter_bits : List ℕ → ℕ
letter_bits [] = 0
letter_bits (b ∷ letters) = letter_bits letters * 2 + letter_bit b

bit-most : (b : ℕ) → letter_bit b ≤ 1
bit-most b = by (b == 108)
  where
    by : (t : Bool) → cond t 1 0 ≤ 1
    by true = omega arith
    by false = omega arith

bit-days : (b : ℕ) → letter_days b ≡ 29 + letter_bit b
bit-days b = by (b == 108)
  where
    by : (t : Bool) → cond t 30 29 ≡ 29 + cond t 1 0
    by true = refl
    by false = refl

pub bits-few : (letters : List ℕ) → letter_bits letters < 2 ^ length letters
bits-few [] = omega arith
bits-few (b ∷ letters) =
    let rest = bits-few letters in
    let most = bit-most b in
    let double : 2 ^ (suc (length letters)) ≡ 2 * 2 ^ length letters = simp unary_clauses (omega arith) in
    rw double (omega arith)

-- one more letter before the others moves their bits up
above : (long b k : ℕ) → b ≤ 1 → (long * 2 + b) / 2 ^ (suc k) ≡ long / 2 ^ k
above long b k h =
    let half : (long * 2 + b) / 2 ≡ long = omega arith in
    let double : 2 ^ (suc k) ≡ 2 * 2 ^ k = simp unary_clauses (omega arith) in
    rw double (sym (div-div-eq-div-mul (long * 2 + b) 2 (2 ^ k)) ∙ ap (λ (n : ℕ). n / 2 ^ k) half)

abbrev start_at : List ℤ → ℕ → ℤ
start_at starts i = slice_index_or starts i (pos 0)

pub first_start : (n : ℕ) (day : ℤ) (letters : List ℕ) → start_at (starts_of (suc n) day letters) 0 ≡ day
first_start n day [] = refl
first_start n day (b ∷ letters) = refl

later : (day : ℤ) (b : ℕ) → letter_days b ≡ 29 + letter_bit b → pos (29 + letter_bit b) ≡ (day +ℤ pos (letter_days b)) -ℤ day
later day b e = omega (arith, signed, e)

-- the bits are the lengths of the months that begin on the starts
bits-from : (letters : List ℕ) (n : ℕ) (day : ℤ) (k : ℕ) → length letters ≤ n → k < length letters
    → pos (29 + letter_bits letters / 2 ^ k % 2) ≡ start_at (starts_of (suc n) day letters) (suc k) -ℤ start_at (starts_of (suc n) day letters) k
bits-from [] n day k room h = absurd (omega (arith, h))
bits-from (b ∷ letters) zero day k room h = absurd (omega (arith, room))
bits-from (b ∷ letters) (suc n) day zero room h =
    let most = bit-most b in
    let lowest : (letter_bits letters * 2 + letter_bit b) / 1 % 2 ≡ letter_bit b = omega (arith, most) in
    ap (λ (q : ℕ). pos (29 + q)) lowest
    ∙ (later day b (bit-days b) ∙ ap (λ (z : ℤ). z -ℤ day) (sym (first_start n (day +ℤ pos (letter_days b)) letters)))
bits-from (b ∷ letters) (suc n) day (suc k) room h =
    ap (λ (q : ℕ). pos (29 + q % 2)) (above (letter_bits letters) (letter_bit b) k (bit-most b))
    ∙ bits-from letters n (day +ℤ pos (letter_days b)) k (omega (arith, room)) (omega (arith, h))

pub bits-days : (letters : List ℕ) (n : ℕ) (day : ℤ) (i : ℕ) → length letters ≤ n → 1 ≤ i → i ≤ length letters
    → pos (29 + letter_bits letters / 2 ^ (i - 1) % 2) ≡ start_at (starts_of (suc n) day letters) i -ℤ start_at (starts_of (suc n) day letters) (i - 1)
bits-days letters n day i room low high =
    let next : suc (i - 1) ≡ i = omega (arith, low) in
    bits-from letters n day (i - 1) room (omega (arith, low, high))
    ∙ ap (λ (k : ℕ). start_at (starts_of (suc n) day letters) k -ℤ start_at (starts_of (suc n) day letters) (i - 1)) next
