-- The first day to which an occurrence of a recurrence set moves, as the program finds it.
use Rattle.std.specs.Prelude.{◌≡◌, ℕ, List, MatchOption, Option, ℤ, ◌+ℤ◌, ◌-ℤ◌}
use Rattle.cal_days.specs.Day.{IsBetween, IsValidDay}
use Rattle.cal_days.specs.Division.{floor_mod}
use Rattle.cal_types.specs.CalendarList.{CalendarList}
use Rattle.cal_types.specs.declared.window.Window.{Window}
use Rattle.recurrence_sets.specs.Occurrences.{Occurs}
use Rattle.recurrence_sets.specs.declared.bounds.Bounds.{Bounds}
use Rattle.cal_holidays.specs.NamedDays.{IsInYear}
use Rattle.cal_holidays.specs.Observing.{IsKept, move_on}
use Rattle.cal_holidays.specs.declared.rule_years.RuleYears.{RuleYears}

-- a day is one of a window's, if there is a window
abbrev pub IsWithin : Option Window → ℤ → Type 0
IsWithin days n = MatchOption days ⊥ (λ w. IsBetween w.first w.last n)

-- the valid days from so many days before a day to so many behind another are a window's
abbrev pub IsAround : ℤ → ℤ → ℤ → Option Window → Type 0
IsAround first last reach days =
    (n : ℤ) → IsValidDay n → IsBetween (first -ℤ reach) (last +ℤ reach) n → IsWithin days n

-- a set has an occurrence on one of the days that are left
abbrev pub OccursOn : (ℤ → Type 0) → Bounds → Option Window → ℤ → Type 0
OccursOn Is b rest n = IsWithin rest n × (index : ℕ) × Occurs Is b index n

-- one of some own days, in a year in which a rule is kept, moves to a day
pub record MovesFrom (c : CalendarList) (Own : ℤ → Type 0) (years : RuleYears) (moves : List (Option ℤ)) (n : ℤ)
    : Type 0 where
  pub own : ℤ
  pub is_own : Own own
  pub year : ℤ
  pub in_year : IsInYear c year own
  pub kept : IsKept years year
  pub moved : n ≡ own +ℤ move_on moves (floor_mod own 7)
