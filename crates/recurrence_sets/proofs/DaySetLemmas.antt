-- Numbers of other words, added to words.
use Rattle.std.proofs.Common.{◌≡◌, ◌∙◌, ℕ, ◌+◌, ◌*◌, ◌/◌, ◌%◌, ◌<◌, ◌≤◌, ◌≢◌, ◌&&◌, ◌||◌, Bool, true, false, nat_eq, nat_lt, nat_le, int_le, int_lt, ℤ, pos, negsuc, ◌+ℤ◌, ◌-ℤ◌, ◌≤ℤ◌, ◌<ℤ◌, List, length, get_or, set, refl, sym, ap, arith}
use Rattle.std.proofs.lemmas.Bool.{eqb-false, eqb-true}
use Rattle.std.proofs.lemmas.Bool.Decides.{nat_tests}
use Rattle.std.proofs.lemmas.List.{get_or-set_other, get_or-set_same}
use Rattle.cal_days.proofs.Signed.{signed}
use Rattle.cal_rule.specs.Sets.{has_bit, has_number}
use Rattle.recurrence_sets.specs.PeriodBits.{has_offset}

added_first : (k o : Bool) → (k || ((false && k) || o)) ≡ ((true && k) || o)
added_first true o = refl
added_first false o = refl

other_added : (i place : ℕ) → i / 64 ≢ place → nat_lt i (64 * place) ≡ nat_lt i (64 * (place + 1))
other_added i place apart = grind (arith, nat_tests, apart)

-- one word more to which other numbers are added
pub add-more : (words old others : List ℕ) (place word : ℕ) → place < length words →
    ((k : ℕ) → has_bit word k ≡ (has_bit (get_or others place 0) k || has_bit (get_or words place 0) k)) →
    ((i : ℕ) → has_number words i ≡ ((nat_lt i (64 * place) && has_number others i) || has_number old i)) →
    (i : ℕ) → has_number (set words place word) i
    ≡ ((nat_lt i (64 * (place + 1)) && has_number others i) || has_number old i)
add-more words old others place word within either before i = by_place (nat_eq (i / 64) place) refl
  where
    by_place : (b : Bool) → nat_eq (i / 64) place ≡ b → has_number (set words place word) i
        ≡ ((nat_lt i (64 * (place + 1)) && has_number others i) || has_number old i)
    by_place true is =
        let at : i / 64 ≡ place = eqb-true (i / 64) place is in
        let inside : nat_lt i (64 * (place + 1)) ≡ true = grind (arith, nat_tests, at) in
        let outside : nat_lt i (64 * place) ≡ false = grind (arith, nat_tests, at) in
        ap (λ p. has_bit (get_or (set words place word) p 0) (i % 64)) at
        ∙ ap (λ w. has_bit w (i % 64)) (get_or-set_same words place word 0 within)
        ∙ either (i % 64)
        ∙ ap (λ p. has_bit (get_or others p 0) (i % 64) || has_bit (get_or words p 0) (i % 64)) (sym at)
        ∙ ap (λ b. has_number others i || b) (before i)
        ∙ ap (λ b. has_number others i || ((b && has_number others i) || has_number old i)) outside
        ∙ added_first (has_number others i) (has_number old i)
        ∙ ap (λ b. (b && has_number others i) || has_number old i) (sym inside)
    by_place false is =
        let apart = eqb-false (i / 64) place is in
        ap (λ w. has_bit w (i % 64)) (get_or-set_other words place (i / 64) word 0 apart)
        ∙ before i ∙ ap (λ b. (b && has_number others i) || has_number old i) (other_added i place apart)

-- days from one up to another, by how many of the 448 lie before each
pub run-at : (words more : List ℕ) (first from to n : ℤ) (begin end : ℕ) →
    ((i : ℕ) → i < 448 → has_number more i ≡ ((nat_le begin i && nat_lt i end) || has_number words i)) →
    ((i : ℕ) → i < 448 → nat_le begin i ≡ int_le from (first +ℤ pos i)) →
    ((i : ℕ) → i < 448 → nat_lt i end ≡ int_lt (first +ℤ pos i) to) →
    first ≤ℤ n → n <ℤ (first +ℤ pos 448) →
    has_offset more (n -ℤ first) ≡ ((int_le from n && int_lt n to) || has_offset words (n -ℤ first))
run-at words more first from to n begin end numbers low high above below = by_offset (n -ℤ first) refl
  where
    by_offset : (z : ℤ) → n -ℤ first ≡ z →
        has_offset more z ≡ ((int_le from n && int_lt n to) || has_offset words z)
    by_offset (pos i) e =
        let at : first +ℤ pos i ≡ n = omega (arith, signed, e) in
        let few : i < 448 = omega (arith, signed, e, below) in
        numbers i few
        ∙ ap (λ b. (b && nat_lt i end) || has_number words i) (low i few ∙ ap (int_le from) at)
        ∙ ap (λ b. (int_le from n && b) || has_number words i) (high i few ∙ ap (λ m. int_lt m to) at)
    by_offset (negsuc i) e = absurd (omega (arith, signed, e, above))

-- none if as many lie before the first one
pub run-empty : (words : List ℕ) (begin end i : ℕ) → end ≤ begin →
    has_number words i ≡ ((nat_le begin i && nat_lt i end) || has_number words i)
run-empty words begin end i order =
    let none : (nat_le begin i && nat_lt i end) ≡ false = grind (arith, nat_tests, order) in
    rw none refl
