-- A split at the first separator.
use Rattle.std.proofs.Common.{◌≡◌, Option, cond, ℕ, ◌+◌, ◌<◌, Bool, true, false, List, [], ◌∷◌, length, take, drop, Some, None, position, refl, arith, ltb}
use Rattle.std.specs.List.{slice_split, position_or_len}
use Rattle.std.proofs.lemmas.List.Splits.{slice_split_first, slice_split_none}
use Rattle.std.proofs.lemmas.Option.{cond_some}
use Rattle.std.proofs.lemmas.List.Sums.{fails_before_first}
use borrow.Author.Tests.{ltb-true, ltb-false}

pub split_at_position : (p : ℕ → Bool) (xs : List ℕ) (i : ℕ) → position p xs ≡ Some i → slice_split p xs ≡ take i xs ∷ slice_split p (drop (i + 1) xs)
split_at_position p xs i h =
    let found = cond_some (ltb (position_or_len p xs) (length xs)) (position_or_len p xs) i h in
    let within : position_or_len p xs < length xs = ltb-true (position_or_len p xs) (length xs) found.0 in
    let split = slice_split_first p xs 0 within in
    rw found.1 at split

cond_none : (b : Bool) (n : ℕ) → ◌≡◌ {A = Option ℕ} (cond b (Some n) None) None → b ≡ false
cond_none true n h = cc
cond_none false n h = refl

pub split_at_none : (p : ℕ → Bool) (xs : List ℕ) → position p xs ≡ None → slice_split p xs ≡ xs ∷ []
split_at_none p xs h =
    let past = ltb-false (position_or_len p xs) (length xs) (cond_none (ltb (position_or_len p xs) (length xs)) (position_or_len p xs) h) in
    slice_split_none p xs (λ k d lt. fails_before_first p xs k d (omega (arith, past)))
