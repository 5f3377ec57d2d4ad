-- The days of a window that pass a test.
use Rattle.std.proofs.Common.{◌≡◌, ℕ, zero, suc, Bool, true, false, cond, List, [], ◌∷◌, filter, refl, arith, ℤ, pos, ◌+ℤ◌, ◌-ℤ◌, ◌<ℤ◌, ◌≤ℤ◌}
use Rattle.std.specs.Prelude.{All, AllPairs, Contains}
use Rattle.std.proofs.lemmas.Int.{by_lt_z}
use Rattle.std.proofs.lemmas.List.Elements.{All-nil, All-cons, All-weaker, All-filter, All-contains, All-contains_itself, Contains-append_right, filter_passes}
use Rattle.std.proofs.lemmas.List.Kept.{AllPairs-cons, AllPairs-filter}
use Rattle.cal_days.specs.Day.{IsBetween}
use Rattle.cal_days.specs.Sums.{years_up}
use Rattle.cal_days.proofs.Signed.{signed}
use Rattle.cal_types.specs.Windows.{days_from, days_between}
use Rattle.cal_anniversary.specs.FallingOn.{AreDays}

-- ---- what passes a test

module _ {X : Type 0} (p : X → Bool) where
  head-kept : (x : X) (xs : List X) (b : Bool) → p x ≡ b → b ≡ true → Contains (cond b (x ∷ filter p xs) (filter p xs)) x
  head-kept x xs true e h = (0, omega arith, refl)
  head-kept x xs false e h = cc

  tail-kept : (x : X) (xs : List X) (b : Bool) (y : X) → Contains (filter p xs) y → Contains (cond b (x ∷ filter p xs) (filter p xs)) y
  tail-kept x xs true y has = Contains-append_right (x ∷ []) (filter p xs) y has
  tail-kept x xs false y has = has

  all-kept : (xs : List X) → All (λ x. p x ≡ true → Contains (filter p xs) x) xs
  all-kept [] = All-nil (λ x. p x ≡ true → Contains {X = X} [] x)
  all-kept (x ∷ xs) =
      All-cons (λ y. p y ≡ true → Contains (filter p (x ∷ xs)) y) x xs
      (λ h. head-kept x xs (p x) refl h)
      (All-weaker (λ y. p y ≡ true → Contains (filter p xs) y) (λ y. p y ≡ true → Contains (filter p (x ∷ xs)) y)
      (λ y kept h. tail-kept x xs (p x) y (kept h)) xs (all-kept xs))

  -- what a filter keeps are the items that pass
  pub filter-has : (xs : List X) (x : X) → Contains xs x → p x ≡ true → Contains (filter p xs) x
  filter-has xs x has = All-contains (λ y. p y ≡ true → Contains (filter p xs) y) xs x (all-kept xs) has

  pub has-filter : (xs : List X) (x : X) → Contains (filter p xs) x → Contains xs x × (p x ≡ true)
  has-filter xs x has = (
    All-contains (Contains xs) (filter p xs) x (All-filter p (Contains xs) xs (All-contains_itself xs)) has,
    All-contains (λ y. p y ≡ true) (filter p xs) x (filter_passes p xs) has,
  )

-- ---- days in a row

abbrev IsIn : ℤ → ℕ → ℤ → Type 0
IsIn n count k = (n ≤ℤ k) × (k <ℤ (n +ℤ pos count))

days_from-all : (n : ℤ) (count : ℕ) → All (IsIn n count) (days_from n count)
days_from-all n zero = All-nil (IsIn n zero)
days_from-all n (suc count) =
    All-cons (IsIn n (suc count)) n (days_from (n +ℤ pos 1) count) (omega (arith, signed), omega (arith, signed))
    (All-weaker (IsIn (n +ℤ pos 1) count) (IsIn n (suc count)) (λ k h. (omega (arith, signed, h.0), omega (arith, signed, h.1))) (days_from (n +ℤ pos 1) count) (days_from-all (n +ℤ pos 1) count))

days_from-has : (n : ℤ) (count : ℕ) (k : ℤ) → IsIn n count k → Contains (days_from n count) k
days_from-has n zero k h = absurd (omega (arith, signed, h.0, h.1))
days_from-has n (suc count) k h =
    by_lt_z {P = Contains (days_from n (suc count)) k} n k
    (λ lt. Contains-append_right (n ∷ []) (days_from (n +ℤ pos 1) count) k (days_from-has (n +ℤ pos 1) count k (omega (arith, signed), omega (arith, signed, h.1))))
    (λ ge. let same : n ≡ k = omega (arith, signed, h.0) in (0, omega arith, same))

days_from-rise : (n : ℤ) (count : ℕ) → AllPairs ◌<ℤ◌ (days_from n count)
days_from-rise n zero = λ i j d lt within. absurd (omega arith)
days_from-rise n (suc count) =
    AllPairs-cons ◌<ℤ◌ n (days_from (n +ℤ pos 1) count)
    (All-weaker (IsIn (n +ℤ pos 1) count) (λ k. n <ℤ k) (λ k h. omega (arith, signed, h.0)) (days_from (n +ℤ pos 1) count) (days_from-all (n +ℤ pos 1) count))
    (days_from-rise (n +ℤ pos 1) count)

-- the days of a window are those between its ends
pub days_between-has : (first last n : ℤ) → IsBetween first last n → Contains (days_between first last) n
days_between-has first last n h = days_from-has first (years_up (last -ℤ first +ℤ pos 1)) n (h.0, omega (arith, signed, h.0, h.1))

pub has-days_between : (first last n : ℤ) → Contains (days_between first last) n → IsBetween first last n
has-days_between first last n has =
    let count = years_up (last -ℤ first +ℤ pos 1) in
    let h = All-contains (IsIn first count) (days_from first count) n (days_from-all first count) has in
    (h.0, omega (arith, signed, h.0, h.1))

-- where a test says whether a property holds, the days that pass are those that have it
pub days-tested : (test : ℤ → Bool) (Is : ℤ → Type 0) → ((n : ℤ) → test n ≡ true → Is n) → ((n : ℤ) → Is n → test n ≡ true) → (first last : ℤ) → AreDays Is first last (filter test (days_between first last))
days-tested test Is sound complete first last = record {
  rising = AllPairs-filter ◌<ℤ◌ test (days_between first last) (days_from-rise first (years_up (last -ℤ first +ℤ pos 1)));
  exact = λ n. (
    λ has.
        let parts = has-filter test (days_between first last) n has in
        (sound n parts.1, has-days_between first last n parts.0),
    λ h. filter-has test (days_between first last) n (days_between-has first last n h.1) (complete n h.0),
  );
}
