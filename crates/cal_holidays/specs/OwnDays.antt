-- The own days of rules in years, as the program finds them.
use Rattle.std.specs.Prelude.{Bool, true, MatchOption, Option, ℤ}
use Rattle.cal_days.specs.Day.{IsBetween, IsFieldYear, IsValidDay}
use Rattle.cal_types.specs.CalendarList.{CalendarList}
use Rattle.cal_holidays.specs.NamedDays.{OwnDay}
use Rattle.cal_holidays.specs.Rules.{Easter, Fixed, Nth, Rule, Span}
use Rattle.cal_holidays.specs.declared.own_days.YearSpan.{YearSpan}

-- the valid day that is one, if there is any
abbrev pub IsValidOne : (ℤ → Type 0) → Option ℤ → Type 0
IsValidOne Is day = MatchOption day ((n : ℤ) → IsValidDay n → Is n → ⊥) (λ n. Is n × IsValidDay n)

-- whether the calendar has the month of a rule
abbrev pub has_month : CalendarList → Rule → Bool
has_month c (Fixed kind m d leaping) = c.is_of_kind m
has_month c (Easter julian offset) = true
has_month c (Nth kind m nth weekday) = c.is_of_kind m
has_month c (Span kind m d week weekday) = c.is_of_kind m

-- the valid days from one day to another that are one of a year are those of the years from a first to a last one
pub record AreYearsOf (Is : ℤ → ℤ → Type 0) (from to : ℤ) (span : YearSpan) : Type 0 where
  pub low : IsFieldYear span.low
  pub high : IsFieldYear span.high
  pub within : (y n : ℤ) → Is y n → IsValidDay n → IsBetween from to n → IsBetween span.low span.high y
