-- The days within bounds.
use Rattle.std.specs.Prelude.{ℕ, ◌↔◌, Bool, false, nat_le, cond, int_lt, MatchOption, Option, Some, None, ℤ, ◌≤ℤ◌}
use Rattle.std.specs.Option.{ForSome}
use Rattle.cal_days.specs.Day.{IsBetween}
use Rattle.cal_types.specs.declared.window.Window.{Window}
use Rattle.recurrence_sets.specs.declared.bounds.Bounds.{Bounds}

-- whether so many are all that there may be
abbrev pub has_all : Option ℕ → ℕ → Bool
has_all None index = false
has_all (Some count) index = nat_le count index

-- the later one of two days
abbrev pub later : ℤ → ℤ → ℤ
later m n = cond (int_lt m n) n m

-- a day is in a window, and within the bounds
pub record IsBoundedIn (b : Bounds) (w : Window) (n : ℤ) : Type 0 where
  pub within : IsBetween w.first w.last n
  pub started : b.start ≤ℤ n
  pub ended : ForSome b.until (λ last. n ≤ℤ last)

-- what is left of a window are its days within the bounds, from the later one of its first day and the start on
pub record IsRestOf (b : Bounds) (w rest : Window) : Type 0 where
  pub exact : (n : ℤ) → IsBetween rest.first rest.last n ↔ IsBoundedIn b w n
  pub reached : w.first ≤ℤ rest.first

abbrev pub IsWithin : Bounds → Window → Option Window → Type 0
IsWithin b w found = MatchOption found ((n : ℤ) → ¬ (IsBoundedIn b w n)) (IsRestOf b w)
