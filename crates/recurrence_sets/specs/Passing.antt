-- Days that are passed and counted.
use Rattle.std.specs.Prelude.{ℕ, IsTrue, Option, ℤ, pos, ◌+ℤ◌, ◌≤ℤ◌, ◌<ℤ◌}
use Rattle.recurrence_sets.specs.Bounds.{has_all}
use Rattle.recurrence_sets.specs.Days.{HasCount}
use Rattle.recurrence_sets.specs.Listing.{AreLooks, ArePassed}
use Rattle.recurrence_sets.specs.Occurrences.{IsOfSome}
use Rattle.recurrence_sets.specs.declared.passing.Passed.{Passed}

-- so many days of a kind are from a first one to the one before the next
abbrev pub HasPassed : (ℤ → Type 0) → ℤ → ℤ → ℕ → Type 0
HasPassed Is first next index = HasCount (λ m. Is m × (first ≤ℤ m) × (m <ℤ next)) index

-- what is known of days that were passed
pub record IsPassing (Has : ℕ → ℤ → Type 0) (last : ℤ) (p : Passed) : Type 0 where
  pub order : p.first ≤ℤ p.next
  pub looked : AreLooks Has last p.looks
  pub passed : ArePassed Has p.looks.period p.next last
  pub counted : HasPassed (IsOfSome Has) p.first p.next p.index
  pub few : (p.first +ℤ pos p.index) ≤ℤ p.next

-- as many days of a kind as there may be lie from a first one on before another
pub record IsFullBefore (Is : ℤ → Type 0) (most : Option ℕ) (first day : ℤ) : Type 0 where
  pub next : ℤ
  pub index : ℕ
  pub order : next ≤ℤ day
  pub counted : HasPassed Is first next index
  pub full : IsTrue (has_all most index)
