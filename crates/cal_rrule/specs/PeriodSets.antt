-- Sets of the days of a period.
use Rattle.std.specs.Prelude.{◌↔◌, IsTrue, ℕ, ℤ}
use Rattle.cal_types.specs.CalendarList.{CalendarList, Date}
use Rattle.cal_rule.specs.declared.rule.RecurrenceRule.{RecurrenceRule}
use Rattle.cal_rrule.specs.Masks.{InRow}
use Rattle.cal_rrule.specs.Occurrences.{IsKept}
use Rattle.cal_rrule.specs.Periods.{IsOfPeriod}
use Rattle.recurrence_sets.specs.PeriodBits.{has_day}
use Rattle.recurrence_sets.specs.declared.period_days.PeriodDays.{PeriodDays}

-- a set has exactly the days of a period, before BYSETPOS, and no other day
pub record IsPeriodSet (c : CalendarList) (rule : RecurrenceRule) (t : Date) (k : ℕ) (set : PeriodDays) : Type 0 where
  pub exact : (n : ℤ) → InRow set n → IsTrue (has_day set n) ↔ IsOfPeriod c rule t k n
  pub within : (n : ℤ) → IsOfPeriod c rule t k n → InRow set n
  pub row : (n : ℤ) → IsTrue (has_day set n) → InRow set n

-- and exactly those that BYSETPOS keeps
abbrev pub IsKeptSet : CalendarList → RecurrenceRule → Date → ℕ → PeriodDays → Type 0
IsKeptSet c rule t k set = (n : ℤ) → IsTrue (has_day set n) ↔ IsKept c rule t k n
