-- The first bit of a word from a place on, and how many bits it has below a place; the same of words in a row.
use Rattle.std.proofs.Common.{◌≡◌, ◌∙◌, ℕ, zero, suc, ◌+◌, ◌-◌, ◌*◌, ◌/◌, ◌%◌, ◌^◌, ◌<◌, ◌≤◌, ◌==◌, ◌⊎◌, inl, inr, Bool, false, cond, List, length, get_or, min, sym, ap, arith, w64}
use Rattle.std.specs.Int.{bit_at, trailing_zeros}
use Rattle.std.specs.Int.RustNames.{bit_and, count_ones}
use Rattle.std.proofs.lemmas.Bool.{cases_lt}
use Rattle.std.proofs.lemmas.List.{get_or_past}
use Rattle.std.proofs.lemmas.Nat.{mod-pow-add, ones_cat, ones_le_self, zero_from_ones, and_le_l, and_mask, pow_pos, mod_below}
use Rattle.std.proofs.lemmas.Nat.Bits.{bit_at-lt, bit_at-trailing_zeros, bit_at-zero, bit_at_and, bit_at_mask_below, bit_at_mask_inside, ones_shl, ones_shr}
use Rattle.cal_days.proofs.Signed.{by_lt}
use Rattle.cal_rule.specs.Sets.{has_bit, has_number}
use Rattle.recurrence_sets.specs.Numbers.{IsFirstPassing, count_below}
use Rattle.recurrence_sets.proofs.NumberLemmas.{count-same, count-split, count-suc, count-zero}

-- ---- how many bits

one_bit : (a : ℕ) → a < 2 → count_ones a ≡ cond (a == 1) 1 0
one_bit zero few = omega (arith, ones_le_self 0)
one_bit (suc zero) few = by_ones (cases_lt (count_ones 1) 1) where
  by_ones : (count_ones 1 < 1) ⊎ (1 ≤ count_ones 1) → count_ones 1 ≡ 1
  by_ones (inl none) = let wrong = zero_from_ones 1 (omega (arith, none)) in absurd (omega (arith, wrong))
  by_ones (inr some) = omega (arith, some, ones_le_self 1)
one_bit (suc (suc n)) few = absurd (omega (arith, few))

ones-below : (w k : ℕ) → count_ones (w % 2 ^ k) ≡ count_below (has_bit w) k
ones-below w zero =
    let none : w % 2 ^ 0 ≡ 0 = omega arith in
    ap count_ones none ∙ omega (arith, ones_le_self 0, count-zero (has_bit w))
ones-below w (suc k) =
    let more : 1 + k ≡ suc k = omega arith in
    let parts = mod-pow-add w 1 k in
    let high : w / 2 ^ k % 2 ^ 1 < 2 = bit_at-lt w k in
    let low : w % 2 ^ k < 2 ^ k = mod_below w (2 ^ k) (pow_pos k) in
    ap (λ (j : ℕ). count_ones (w % 2 ^ j)) (sym more)
    ∙ ap count_ones parts
    ∙ ones_cat k (w / 2 ^ k % 2 ^ 1) (w % 2 ^ k) low
    ∙ omega (arith, one_bit (w / 2 ^ k % 2 ^ 1) high, ones-below w k, count-suc (has_bit w) k)

-- as a mask leaves them
pub ones-masked : (w to : ℕ) → to ≤ 64 → count_ones (bit_and w ((2 ^ 64 - 1) / 2 ^ (64 - to))) ≡ count_below (has_bit w) to
ones-masked w to most =
    let back : 64 - (64 - to) ≡ to = omega (arith, most) in
    rw (ones_shr 64 (64 - to) (omega arith), back, and_mask w to) (ones-below w to)

-- ---- the first bit

module _ (word from : ℕ) (most : from ≤ 64) where
  masked-high : (i : ℕ) → from ≤ i → i < 64 → bit_at (bit_and word (2 ^ 64 - 2 ^ from)) i ≡ bit_at word i
  masked-high i high low =
      let one = bit_at_mask_inside from 64 i high low in
      bit_at_and word (2 ^ 64 - 2 ^ from) i ∙ ap (min (bit_at word i)) one ∙ omega (arith, bit_at-lt word i)

  masked-low : (i : ℕ) → i < from → bit_at (bit_and word (2 ^ 64 - 2 ^ from)) i ≡ 0
  masked-low i low =
      let none = bit_at_mask_below from 64 i low in
      bit_at_and word (2 ^ 64 - 2 ^ from) i ∙ ap (min (bit_at word i)) none ∙ omega arith

  pub first-none : (rest : ℕ) → rest ≡ bit_and word ((2 ^ 64 - 1) * 2 ^ from % 2 ^ 64) → rest ≡ 0 →
      (i : ℕ) → from ≤ i → i < 64 → has_bit word i ≡ false
  first-none rest is none i high low =
      let empty : bit_and word (2 ^ 64 - 2 ^ from) ≡ 0 = ap (bit_and word) (sym (ones_shl 64 from most)) ∙ sym is ∙ none in
      let bit : bit_at word i ≡ 0 = sym (masked-high i high low) ∙ ap (λ w. bit_at w i) empty ∙ bit_at-zero i in
      ap (λ b. b == 1) bit

  pub first-some : (rest : ℕ) → rest ≡ bit_and word ((2 ^ 64 - 1) * 2 ^ from % 2 ^ 64) → 0 < rest → word < 2 ^ 64 →
      IsFirstPassing (has_bit word) from 64 (trailing_zeros w64 rest)
  first-some rest is some fits =
      let less : rest ≤ word = omega (arith, is, and_le_l word ((2 ^ 64 - 1) * 2 ^ from % 2 ^ 64)) in
      let found = bit_at-trailing_zeros w64 rest some (omega (arith, less, fits)) in
      let n = trailing_zeros w64 rest in
      let low : n < 64 = found.0 in
      let same : rest ≡ bit_and word (2 ^ 64 - 2 ^ from) = is ∙ ap (bit_and word) (ones_shl 64 from most) in
      let at : bit_at (bit_and word (2 ^ 64 - 2 ^ from)) n ≡ 1 = ap (λ w. bit_at w n) (sym same) ∙ found.1 in
      let high : from ≤ n = by_order n at (cases_lt n from) in
      record {
        passes = ap (λ b. b == 1) (sym (masked-high n high low) ∙ at);
        reached = high;
        within = low;
        least = λ i from' before.
            ap (λ b. b == 1) (sym (masked-high i from' (omega (arith, low, before))) ∙ ap (λ w. bit_at w i) (sym same) ∙ found.2 i before);
      } where
        by_order : (n : ℕ) → bit_at (bit_and word (2 ^ 64 - 2 ^ from)) n ≡ 1 → (n < from) ⊎ (from ≤ n) → from ≤ n
        by_order n at (inl low) = absurd (omega (arith, masked-low n low, at))
        by_order n at (inr high) = high

-- ---- words in a row

-- a number in a word
pub number-at : (words : List ℕ) (place i : ℕ) → i < 64 → has_number words (64 * place + i) ≡ has_bit (get_or words place 0) i
number-at words place i low =
    let whole : (64 * place + i) / 64 ≡ place = omega (arith, low) in
    let part : (64 * place + i) % 64 ≡ i = omega (arith, low) in
    ap (λ p. has_bit (get_or words p 0) ((64 * place + i) % 64)) whole ∙ ap (has_bit (get_or words place 0)) part

-- no number lies past the words
pub number-past : (words : List ℕ) (i : ℕ) → 64 * length words ≤ i → has_number words i ≡ false
number-past words i past =
    let high : length words ≤ i / 64 = omega (arith, past) in
    ap (λ w. has_bit w (i % 64)) (get_or_past words (i / 64) 0 high) ∙ ap (λ b. b == 1) (bit_at-zero (i % 64))

-- one word more of a count
pub count-word : (words : List ℕ) (place k : ℕ) → k ≤ 64 →
    count_below (has_number words) (64 * place + k) ≡ count_below (has_number words) (64 * place) + count_below (has_bit (get_or words place 0)) k
count-word words place k most =
    count-split (has_number words) (64 * place) k
    ∙ ap (λ c. count_below (has_number words) (64 * place) + c)
    (count-same (λ i. has_number words (64 * place + i)) (has_bit (get_or words place 0)) k (λ i low. number-at words place i (omega (arith, low, most))))

-- a number at or behind a word's first
behind : (words : List ℕ) (place i : ℕ) → 64 * place ≤ i → i < 64 * (place + 1) →
    (b : Bool) → has_bit (get_or words place 0) (i - 64 * place) ≡ b → has_number words i ≡ b
behind words place i high low b is =
    let whole : 64 * place + (i - 64 * place) ≡ i = omega (arith, high) in
    ap (has_number words) (sym whole) ∙ number-at words place (i - 64 * place) (omega (arith, high, low)) ∙ is

-- the first number lies in a word
pub first-word : (words : List ℕ) (place from low bit : ℕ) → place < length words → low ≡ min (from - 64 * place) 64 →
    ((i : ℕ) → from ≤ i → i < 64 * place → has_number words i ≡ false) → IsFirstPassing (has_bit (get_or words place 0)) low 64 bit →
    IsFirstPassing (has_number words) from (64 * length words) (64 * place + bit)
first-word words place from low bit within is none first = record {
  passes = number-at words place bit first.within ∙ first.passes;
  reached = omega (arith, is, first.reached, first.within);
  within = omega (arith, within, first.within);
  least = λ i high before.
      by_lt {P = has_number words i ≡ false} i (64 * place) (λ lt. none i high lt)
      (λ ge. behind words place i ge (omega (arith, before, first.within)) false
      (first.least (i - 64 * place) (omega (arith, is, high, ge)) (omega (arith, ge, before))));
}

-- or none does
pub none-word : (words : List ℕ) (place from low : ℕ) → low ≡ min (from - 64 * place) 64 →
    ((i : ℕ) → from ≤ i → i < 64 * place → has_number words i ≡ false) →
    ((k : ℕ) → low ≤ k → k < 64 → has_bit (get_or words place 0) k ≡ false) →
    (i : ℕ) → from ≤ i → i < 64 * (place + 1) → has_number words i ≡ false
none-word words place from low is none word i high before =
    by_lt {P = has_number words i ≡ false} i (64 * place) (λ lt. none i high lt)
    (λ ge. behind words place i ge before false (word (i - 64 * place) (omega (arith, is, high, ge)) (omega (arith, ge, before))))

-- a count up to a number, one word further
pub count-further : (words : List ℕ) (place to low count more : ℕ) → low ≡ min (to - 64 * place) 64 →
    count ≡ count_below (has_number words) (min to (64 * place)) → more ≡ count_below (has_bit (get_or words place 0)) low →
    count + more ≡ count_below (has_number words) (min to (64 * (place + 1)))
count-further words place to low count more is so_far here =
    by_lt {P = count + more ≡ count_below (has_number words) (min to (64 * (place + 1)))} to (64 * place)
    (λ lt.
    let none : low ≡ 0 = omega (arith, is, lt) in
    let nothing = ap (count_below (has_bit (get_or words place 0))) none ∙ count-zero (has_bit (get_or words place 0)) in
    let same : min to (64 * place) ≡ min to (64 * (place + 1)) = omega (arith, lt) in
    let equal = ap (count_below (has_number words)) same in
    omega (arith, so_far, here, nothing, equal))
    (λ ge.
    let before : min to (64 * place) ≡ 64 * place = omega (arith, ge) in
    let after : 64 * place + low ≡ min to (64 * (place + 1)) = omega (arith, is, ge) in
    let one = ap (count_below (has_number words)) before in
    let two = ap (count_below (has_number words)) after in
    omega (arith, so_far, here, one, two, count-word words place low (omega (arith, is))))
