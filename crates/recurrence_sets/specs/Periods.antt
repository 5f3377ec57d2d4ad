-- The days of periods.
use Rattle.std.specs.Prelude.{ℕ, ◌≤◌, ◌↔◌, IsTrue, ℤ, ◌≤ℤ◌}
use Rattle.cal_days.specs.Day.{IsValidDay}
use Rattle.recurrence_sets.specs.PeriodBits.{has_day}
use Rattle.recurrence_sets.specs.declared.period_days.PeriodDays.{PeriodDays}

-- the valid days of a set are those of a kind
abbrev pub Holds : (ℤ → Type 0) → PeriodDays → Type 0
Holds Is days = (n : ℤ) → IsValidDay n → IsTrue (has_day days n) ↔ Is n

-- from one period on, no valid day up to a last one is of any
abbrev pub HaveEnded : (ℕ → ℤ → Type 0) → ℕ → ℤ → Type 0
HaveEnded Has period last = (j : ℕ) → period ≤ j → (n : ℤ) → IsValidDay n → n ≤ℤ last → ¬ (Has j n)
