-- The anniversary of a year, and the first one in some years.
use Rattle.std.specs.Prelude.{◌≡◌, ℕ, MatchOption, Option, ℤ, ◌≤ℤ◌, ◌<ℤ◌}
use Rattle.cal_days.specs.Day.{IsBetween, IsValidDay}
use Rattle.cal_types.specs.Month.{MonthParts}
use Rattle.cal_types.specs.CalendarList.{CalendarList, Date, IsOn}
use Rattle.cal_types.specs.Anniversary.{IsNamed}
use Rattle.cal_types.specs.declared.leaping.Leaping.{Leaping}

-- a valid day is the anniversary of a year
pub record IsOfYear (c : CalendarList) (leaping : Leaping) (m : MonthParts) (d : ℕ) (y n : ℤ) : Type 0 where
  pub date : Date
  pub on : IsOn c n date
  pub valid : IsValidDay n
  pub named : IsNamed c leaping m d date
  pub year : date.year ≡ y

-- the anniversary of a year, where the year has one that is a valid day
abbrev pub IsDayInYear : CalendarList → Leaping → MonthParts → ℕ → ℤ → Option ℤ → Type 0
IsDayInYear c leaping m d y day =
    MatchOption day ((n : ℤ) → IsOfYear c leaping m d y n → ⊥) (IsOfYear c leaping m d y)

-- the same, where it lies from a first day to a last one
abbrev pub IsDayInWindow : CalendarList → Leaping → MonthParts → ℕ → ℤ → ℤ → ℤ → Option ℤ → Type 0
IsDayInWindow c leaping m d from to y day =
    MatchOption day ((n : ℤ) → IsBetween from to n → IsOfYear c leaping m d y n → ⊥)
    (λ n. IsOfYear c leaping m d y n × IsBetween from to n)

-- no day from a first to a last one is an anniversary of one of the years from a first up to the one before a last
abbrev pub HasNone : CalendarList → Leaping → MonthParts → ℕ → ℤ → ℤ → ℤ → ℤ → Type 0
HasNone c leaping m d from to first last =
    (y n : ℤ) → first ≤ℤ y → y <ℤ last → IsBetween from to n → IsOfYear c leaping m d y n → ⊥

-- a day of a window is the anniversary of a year, and no year before it has one in the window, from a first year on
pub record IsFirst (c : CalendarList) (leaping : Leaping) (m : MonthParts) (d : ℕ)
    (from to first last : ℤ) (n y : ℤ) : Type 0 where
  pub of_year : IsOfYear c leaping m d y n
  pub within : IsBetween from to n
  pub years : IsBetween first last y
  pub none_before : HasNone c leaping m d from to first y
