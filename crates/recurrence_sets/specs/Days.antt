-- Days of a kind: lists of them, how many there are, and places among them.
use Rattle.std.specs.Prelude.{◌≡◌, ℕ, ◌+◌, ◌↔◌, AllPairs, Contains, List, length, MatchOption, Option, ℤ, ◌≤ℤ◌, ◌<ℤ◌}
use Rattle.cal_days.specs.Day.{IsBetween}
use Rattle.cal_rule.specs.declared.place_set.Place.{Place}
use Rattle.cal_rule.specs.declared.place_set.Place.TheVariants.{FromFront, FromBack}

-- some days are those of a kind, in order and each once
pub record AreDays (Is : ℤ → Type 0) (days : List ℤ) : Type 0 where
  pub rising : AllPairs (λ m n. m <ℤ n) days
  pub exact : (n : ℤ) → Contains days n ↔ Is n

-- there are so many days of a kind
abbrev pub HasCount : (ℤ → Type 0) → ℕ → Type 0
HasCount Is count = ∥ ((days : List ℤ) × AreDays Is days × (length days ≡ count)) ∥₁

-- a day has a place among days of a kind, from the front or from the back
abbrev pub HasPlaceAmong : (ℤ → Type 0) → ℤ → Place → Type 0
HasPlaceAmong Is n (FromFront k) = (i : ℕ) × (k ≡ i + 1) × HasCount (λ m. Is m × (m <ℤ n)) i
HasPlaceAmong Is n (FromBack k) = (i : ℕ) × (k ≡ i + 1) × HasCount (λ m. Is m × (n <ℤ m)) i

-- a day is the first of a kind from one day to another
pub record IsFirstOf (Is : ℤ → Type 0) (first last n : ℤ) : Type 0 where
  pub kept : Is n
  pub within : IsBetween first last n
  pub least : (m : ℤ) → first ≤ℤ m → m <ℤ n → ¬ (Is m)

-- what was found is the first day of a kind from one day to another, or there is none
abbrev pub IsFirstBetween : (ℤ → Type 0) → ℤ → ℤ → Option ℤ → Type 0
IsFirstBetween Is first last found =
    MatchOption found ((n : ℤ) → IsBetween first last n → ¬ (Is n)) (IsFirstOf Is first last)
