-- The occurrences of a recurrence set: days of its periods, from a start on.
-- Source: RFC 5545, 3.3.10.
use Rattle.std.specs.Prelude.{◌≡◌, ℕ, ◌<◌, ◌↔◌, AllPairs, Contains, List, [], Option, Some, None, ℤ, ◌≤ℤ◌, ◌<ℤ◌}
use Rattle.std.specs.Option.{ForSome}
use Rattle.cal_days.specs.Day.{IsBetween, IsValidDay}
use Rattle.cal_types.specs.declared.window.Window.{Window}
use Rattle.recurrence_sets.specs.Days.{HasCount}
use Rattle.recurrence_sets.specs.declared.bounds.Bounds.{Bounds}
use Rattle.recurrence_sets.specs.declared.occurrence.Occurrence.{Occurrence}

-- a day is of some period
abbrev pub IsOfSome : (ℕ → ℤ → Type 0) → ℤ → Type 0
IsOfSome Has n = ∥ ((period : ℕ) × Has period n) ∥₁

-- a day on which a set recurs, whatever the count is: a valid day of a kind, from the start on and up to the last day
pub record Recurs (Is : ℤ → Type 0) (b : Bounds) (n : ℤ) : Type 0 where
  pub kept : Is n
  pub started : b.start ≤ℤ n
  pub valid : IsValidDay n
  pub ended : ForSome b.until (λ last. n ≤ℤ last)

-- an occurrence: so many of these days lie before it, and fewer than the count
pub record Occurs (Is : ℤ → Type 0) (b : Bounds) (index : ℕ) (n : ℤ) : Type 0 where
  pub recurs : Recurs Is b n
  pub counted : HasCount (λ m. Recurs Is b m × (m <ℤ n)) index
  pub few : ForSome b.count (λ count. index < count)

-- some occurrences are those of a set from one day to another, in order and each once
pub record AreOccurrences (Is : ℤ → Type 0) (b : Bounds) (first last : ℤ) (xs : List Occurrence) : Type 0 where
  pub rising : AllPairs (λ x y. (x.index < y.index) × (x.day <ℤ y.day)) xs
  pub exact : (x : Occurrence) → Contains xs x ↔ (Occurs Is b x.index x.day × IsBetween first last x.day)

-- some occurrences are those on the days that are left, if any are
abbrev pub AreLeft : (ℤ → Type 0) → Bounds → Option Window → List Occurrence → Type 0
AreLeft Is b None xs = xs ≡ []
AreLeft Is b (Some w) xs = AreOccurrences Is b w.first w.last xs
