-- What a binary search finds in numbers that rise.
use Rattle.std.proofs.Common.{◌≡◌, ℕ, ◌<◌, ◌≤◌, true, false, List, length, get_or, Result, Ok, Err, sym, ap, arith, ℤ, ◌≤ℤ◌}
use Rattle.std.specs.Prelude.{int_lt, is_ok}
use Rattle.std.specs.List.Sorted.{IsBinarySearchResult, IsSearchInRange}
use Rattle.std.specs.Ordering.{int_cmp, int_eq, is_eq, ordering_index}
use Rattle.std.proofs.lemmas.List.Folds.{list_any_at, list_any_none}
use Rattle.cal_days.proofs.Signed.{signed, by_bool, by_lt}
use Rattle.cal_julian.specs.PersianRule.{IsRising, is_corrected}

-- answers rise along numbers that rise
higher : (u v x : ℤ) → u ≤ℤ v → ordering_index (int_cmp u x) ≤ ordering_index (int_cmp v x)
higher u v x le =
    by_bool (int_lt u x)
    (λ below. rw below (omega arith))
    (λ above.
    let past : int_lt v x ≡ false = by_bool (int_lt v x) (λ b. absurd (omega (arith, signed, le, above, b))) (λ b. b) in
    by_bool (int_lt x u)
    (λ greater.
    let also : int_lt x v ≡ true = by_bool (int_lt x v) (λ b. b) (λ b. absurd (omega (arith, signed, le, greater, b))) in
    rw (above, past, greater, also) (omega arith))
    (λ equal. rw (above, past, equal) (by_bool (int_lt x v) (λ b. rw b (omega arith)) (λ b. rw b (omega arith)))))

-- the numbers at two places, of which the first doesn't come after the second
along : (xs : List ℤ) → IsRising xs → (i j : ℕ) (d : ℤ) → i ≤ j → j < length xs → get_or xs i d ≤ℤ get_or xs j d
along xs rising i j d le lt =
    by_lt i j
    (λ before. omega (arith, signed, rising i j d before lt))
    (λ same. let at : i ≡ j = omega arith in rw at (omega (arith, signed)))

-- the search answers Ok exactly where the number is among them
pub found-any : (xs : List ℤ) (x : ℤ) (r : Result ℕ ℕ) → IsRising xs → IsSearchInRange r (length xs) → IsBinarySearchResult (λ y. int_cmp y x) xs r → is_ok r ≡ is_corrected xs x
found-any xs x (Ok i) rising bound h = sym (list_any_at (λ c. int_eq c x) xs i x bound (ap is_eq (h x)))
found-any xs x (Err i) rising bound h =
    let parted = h (λ a b d le lt. higher (get_or xs a d) (get_or xs b d) x (along xs rising a b d le lt)) in
    sym (list_any_none (λ c. int_eq c x) xs (λ k d lt.
    by_lt k i
    (λ before. ap is_eq (parted.0 k d (omega arith) before))
    (λ after. ap is_eq (parted.1 k d after lt))))
