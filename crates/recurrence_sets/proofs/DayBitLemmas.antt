-- Runs of bits, in a word and in words in a row.
use Rattle.std.proofs.Common.{◌≡◌, ◌∙◌, ℕ, ◌+◌, ◌-◌, ◌*◌, ◌/◌, ◌%◌, ◌^◌, ◌<◌, ◌≤◌, ◌&&◌, ◌||◌, ◌==◌, Bool, true, false, nat_eq, ◌≢◌, nat_le, nat_lt, List, length, get_or, set, min, max, refl, sym, ap, arith}
use Rattle.std.specs.Int.{bit_at}
use Rattle.std.specs.Int.RustNames.{bit_and, bit_or}
use mathlib.Core.Logic.{◌⊎◌, inl, inr}
use Rattle.std.proofs.lemmas.Bool.{cases_lt, eqb-false, eqb-true}
use Rattle.std.proofs.lemmas.Bool.Decides.{nat_tests}
use Rattle.std.proofs.lemmas.List.{get_or-set_other, get_or-set_same}
use Rattle.std.proofs.lemmas.Nat.Bits.{bit_at-lt, bit_at_and, bit_at_or, bit_at_mask_below, bit_at_mask_inside, bit_at_ones, bit_at_ones_above, ones_shl, ones_shr}
use Rattle.cal_rule.specs.Sets.{has_bit, has_number}

-- the bits from one up to another
run : (from to i : ℕ) → from ≤ to → to ≤ 64 →
    has_bit (bit_and (2 ^ 64 - 2 ^ from) (2 ^ to - 1)) i ≡ (nat_le from i && nat_lt i to)
run from to i order most = by_from (cases_lt i from)
  where
    by_to : from ≤ i → (i < to) ⊎ (to ≤ i) →
        has_bit (bit_and (2 ^ 64 - 2 ^ from) (2 ^ to - 1)) i ≡ (nat_le from i && nat_lt i to)
    by_to high (inl low) =
        let one = bit_at_mask_inside from 64 i high (omega (arith, low, most)) in
        let other = bit_at_ones to i low in
        let test : (nat_le from i && nat_lt i to) ≡ true = grind (arith, nat_tests, high, low) in
        rw (bit_at_and (2 ^ 64 - 2 ^ from) (2 ^ to - 1) i, one, other, test) refl
    by_to high (inr past) =
        let other = bit_at_ones_above to i past in
        let test : (nat_le from i && nat_lt i to) ≡ false = grind (arith, nat_tests, past) in
        let none : min (bit_at (2 ^ 64 - 2 ^ from) i) 0 ≡ 0 = omega arith in
        rw (bit_at_and (2 ^ 64 - 2 ^ from) (2 ^ to - 1) i, other, none, test) refl

    by_from : (i < from) ⊎ (from ≤ i) →
        has_bit (bit_and (2 ^ 64 - 2 ^ from) (2 ^ to - 1)) i ≡ (nat_le from i && nat_lt i to)
    by_from (inl low) =
        let one = bit_at_mask_below from 64 i low in
        let test : (nat_le from i && nat_lt i to) ≡ false = grind (arith, nat_tests, low) in
        let none : min 0 (bit_at (2 ^ to - 1) i) ≡ 0 = omega arith in
        rw (bit_at_and (2 ^ 64 - 2 ^ from) (2 ^ to - 1) i, one, none, test) refl
    by_from (inr high) = by_to high (cases_lt i to)

-- as shifts make them
pub run-shifted : (from to i : ℕ) → from ≤ to → to ≤ 64 →
    has_bit (bit_and ((2 ^ 64 - 1) * 2 ^ from % 2 ^ 64) ((2 ^ 64 - 1) / 2 ^ (64 - to))) i
    ≡ (nat_le from i && nat_lt i to)
run-shifted from to i order most =
    let back : 64 - (64 - to) ≡ to = omega (arith, most) in
    rw (ones_shl 64 from (omega (arith, order, most)), ones_shr 64 (64 - to) (omega arith), back) (run from to i order most)

-- either of two words has a bit
or-bit : (a b : ℕ) → a < 2 → b < 2 → (max a b == 1) ≡ (b == 1 || a == 1)
or-bit a b small few = grind (arith, nat_tests)

pub bit-or : (word more i : ℕ) → has_bit (bit_or word more) i ≡ (has_bit more i || has_bit word i)
bit-or word more i = rw (bit_at_or word more i) (or-bit (bit_at word i) (bit_at more i) (bit_at-lt word i) (bit_at-lt more i))

-- both of two words have a bit
and-bit : (a b : ℕ) → a < 2 → b < 2 → (min a b == 1) ≡ (a == 1 && b == 1)
and-bit a b small few = grind (arith, nat_tests)

pub bit-and : (word other i : ℕ) → has_bit (bit_and word other) i ≡ (has_bit word i && has_bit other i)
bit-and word other i = rw (bit_at_and word other i) (and-bit (bit_at word i) (bit_at other i) (bit_at-lt word i) (bit_at-lt other i))

first_time : (r o : Bool) → (r || ((r && false) || o)) ≡ ((r && true) || o)
first_time true o = refl
first_time false o = refl

other_word : (i place : ℕ) → i / 64 ≢ place → nat_lt i (64 * place) ≡ nat_lt i (64 * (place + 1))
other_word i place apart = grind (arith, nat_tests, apart)

-- one word more of a run
pub run-more : (words old : List ℕ) (place from to word : ℕ) → place < length words →
    ((k : ℕ) → k < 64 → has_bit word k
    ≡ ((nat_le from (64 * place + k) && nat_lt (64 * place + k) to) || has_bit (get_or words place 0) k)) →
    ((i : ℕ) → has_number words i ≡ (((nat_le from i && nat_lt i to) && nat_lt i (64 * place)) || has_number old i)) →
    (i : ℕ) → has_number (set words place word) i
    ≡ (((nat_le from i && nat_lt i to) && nat_lt i (64 * (place + 1))) || has_number old i)
run-more words old place from to word within more before i = by_place (nat_eq (i / 64) place) refl
  where
    by_place : (b : Bool) → nat_eq (i / 64) place ≡ b → has_number (set words place word) i
        ≡ (((nat_le from i && nat_lt i to) && nat_lt i (64 * (place + 1))) || has_number old i)
    by_place true is =
        let at : i / 64 ≡ place = eqb-true (i / 64) place is in
        let whole : 64 * place + i % 64 ≡ i = omega (arith, at) in
        let small : i % 64 < 64 = omega arith in
        let inside : nat_lt i (64 * (place + 1)) ≡ true = grind (arith, nat_tests, whole, small) in
        let outside : nat_lt i (64 * place) ≡ false = grind (arith, nat_tests, whole) in
        let range = λ (j : ℕ). nat_le from j && nat_lt j to in
        ap (λ p. has_bit (get_or (set words place word) p 0) (i % 64)) at
        ∙ ap (λ w. has_bit w (i % 64)) (get_or-set_same words place word 0 within)
        ∙ more (i % 64) small
        ∙ ap (λ j. range j || has_bit (get_or words place 0) (i % 64)) whole
        ∙ ap (λ p. range i || has_bit (get_or words p 0) (i % 64)) (sym at)
        ∙ ap (λ b. range i || b) (before i)
        ∙ ap (λ b. range i || ((range i && b) || has_number old i)) outside
        ∙ first_time (range i) (has_number old i)
        ∙ ap (λ b. (range i && b) || has_number old i) (sym inside)
    by_place false is =
        let apart = eqb-false (i / 64) place is in
        let same = other_word i place apart in
        ap (λ w. has_bit w (i % 64)) (get_or-set_other words place (i / 64) word 0 apart)
        ∙ before i ∙ ap (λ b. ((nat_le from i && nat_lt i to) && b) || has_number old i) same

kept_first : (o k : Bool) → ((o && (true || k)) && k) ≡ (o && (false || k))
kept_first true k = refl
kept_first false k = refl

other_kept : (i place : ℕ) → i / 64 ≢ place → nat_le (64 * place) i ≡ nat_le (64 * (place + 1)) i
other_kept i place apart = grind (arith, nat_tests, apart)

-- one word more in which common numbers are kept
pub keep-more : (words old others : List ℕ) (place word : ℕ) → place < length words →
    ((k : ℕ) → has_bit word k ≡ (has_bit (get_or words place 0) k && has_bit (get_or others place 0) k)) →
    ((i : ℕ) → has_number words i ≡ (has_number old i && (nat_le (64 * place) i || has_number others i))) →
    (i : ℕ) → has_number (set words place word) i
    ≡ (has_number old i && (nat_le (64 * (place + 1)) i || has_number others i))
keep-more words old others place word within both before i = by_place (nat_eq (i / 64) place) refl
  where
    by_place : (b : Bool) → nat_eq (i / 64) place ≡ b → has_number (set words place word) i
        ≡ (has_number old i && (nat_le (64 * (place + 1)) i || has_number others i))
    by_place true is =
        let at : i / 64 ≡ place = eqb-true (i / 64) place is in
        let inside : nat_le (64 * place) i ≡ true = grind (arith, nat_tests, at) in
        let outside : nat_le (64 * (place + 1)) i ≡ false = grind (arith, nat_tests, at) in
        ap (λ p. has_bit (get_or (set words place word) p 0) (i % 64)) at
        ∙ ap (λ w. has_bit w (i % 64)) (get_or-set_same words place word 0 within)
        ∙ both (i % 64)
        ∙ ap (λ p. has_bit (get_or words p 0) (i % 64) && has_bit (get_or others p 0) (i % 64)) (sym at)
        ∙ ap (λ b. b && has_number others i) (before i)
        ∙ ap (λ b. (has_number old i && (b || has_number others i)) && has_number others i) inside
        ∙ kept_first (has_number old i) (has_number others i)
        ∙ ap (λ b. has_number old i && (b || has_number others i)) (sym outside)
    by_place false is =
        let apart = eqb-false (i / 64) place is in
        ap (λ w. has_bit w (i % 64)) (get_or-set_other words place (i / 64) word 0 apart)
        ∙ before i ∙ ap (λ b. has_number old i && (b || has_number others i)) (other_kept i place apart)
