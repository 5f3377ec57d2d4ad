-- The first byte that passes a test, by a search and by its position.
use Rattle.std.proofs.Common.{◌≡◌, ℕ, ◌<◌, Bool, true, false, cond, List, length, get_or, Option, Some, None, position, refl, ◌∙◌, sym, ap, arith, ltb, ⊎_elim}
use Rattle.std.specs.List.{position_or_len}
use Rattle.std.proofs.lemmas.Bool.{false≢true, cases_lt}
use Rattle.std.proofs.lemmas.List.Quantifiers.{position-Some}
use Rattle.std.proofs.lemmas.List.Sums.{fails_before_first}
use borrow.Author.Tests.{ltb-false}
use Rattle.memchr.specs.Find.{IsFirstByte}

cond_none : (b : Bool) (n : ℕ) → ◌≡◌ {A = Option ℕ} (cond b (Some n) None) None → b ≡ false
cond_none true n h = cc
cond_none false n h = refl

-- where no position is, no element passes
pub none_passes : (test : ℕ → Bool) (xs : List ℕ) → position test xs ≡ None → (k : ℕ) → k < length xs → test (get_or xs k 0) ≡ false
none_passes test xs h k lt =
    let past = ltb-false (position_or_len test xs) (length xs) (cond_none (ltb (position_or_len test xs) (length xs)) (position_or_len test xs) h) in
    fails_before_first test xs k 0 (omega (arith, past))

same_first : (test : ℕ → Bool) (xs : List ℕ) (r p : Option ℕ) → position test xs ≡ p → IsFirstByte test xs r → r ≡ p
same_first test xs None None at h = refl
same_first test xs None (Some i) at h =
    let found = position-Some test xs i 0 at in
    absurd (h i (omega arith) found.0 found.1)
same_first test xs (Some k) None at h = absurd (false≢true (sym (none_passes test xs at k h.0.high) ∙ h.1))
same_first test xs (Some k) (Some i) at h =
    let found = position-Some test xs i 0 at in
    ap Some (⊎_elim
    (λ (lt : k < i). absurd (false≢true (sym (found.2 k lt) ∙ h.1)))
    (λ le. ⊎_elim (λ (lt : i < k). absurd (h.0.before i (omega arith) lt found.1)) (λ ge. omega (arith, le, ge)) (cases_lt i k))
    (cases_lt k i))

-- a search gives the position
pub first_is_position : (test : ℕ → Bool) (xs : List ℕ) (r : Option ℕ) → IsFirstByte test xs r → r ≡ position test xs
first_is_position test xs r h = same_first test xs r (position test xs) refl h
