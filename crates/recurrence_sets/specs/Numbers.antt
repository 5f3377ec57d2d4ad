-- Numbers that pass a test: the first of them, how many there are, and their places.
use Rattle.std.specs.Prelude.{◌≡◌, ℕ, zero, suc, ◌+◌, ◌-◌, ◌<◌, ◌≤◌, ◌||◌, Bool, true, false, cond, MatchOption, Option}
use Rattle.cal_rule.specs.Sets.{has_place}
use Rattle.cal_rule.specs.declared.place_set.Place.TheVariants.{FromFront, FromBack}
use Rattle.cal_rule.specs.declared.place_set.PlaceSet.{PlaceSet}

-- how many numbers below n pass a test
unfoldable pub count_below : (ℕ → Bool) → ℕ → ℕ
count_below test zero = 0
count_below test (suc n) = count_below test n + cond (test n) 1 0

-- a number below a limit is the first from one on that passes a test
pub record IsFirstPassing (test : ℕ → Bool) (from limit n : ℕ) : Type 0 where
  pub passes : test n ≡ true
  pub reached : from ≤ n
  pub within : n < limit
  pub least : (i : ℕ) → from ≤ i → i < n → test i ≡ false

-- what was found is the first number from one on that passes a test, or none below a limit does
abbrev pub IsFirstNumber : (ℕ → Bool) → ℕ → ℕ → Option ℕ → Type 0
IsFirstNumber test from limit found =
    MatchOption found ((i : ℕ) → from ≤ i → i < limit → test i ≡ false) (IsFirstPassing test from limit)

-- whether the place of a number among those below a limit that pass a test is one of some places, from either end
abbrev pub has_position : PlaceSet 7 → (ℕ → Bool) → ℕ → ℕ → Bool
has_position positions test limit n =
    has_place positions (FromFront (count_below test n + 1))
    || has_place positions (FromBack (count_below test limit - count_below test n))
