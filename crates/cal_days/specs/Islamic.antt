-- The years of the tabular Islamic calendar, and the mean years of any Islamic calendar.
-- Source: Reingold and Dershowitz, Calendrical Calculations, chapter 7.
use Rattle.std.specs.Prelude.{◌≡◌, ◌⊎◌, ℕ, Bool, nat_lt, if◌then◌else◌, ℤ, pos, ◌+ℤ◌, ◌-ℤ◌, ◌*ℤ◌, int_div}
use Rattle.cal_days.specs.Day.{IsBetween}
use Rattle.cal_days.specs.Division.{floor_div, floor_mod}

-- the first day of year 1: Thursday the 15th or Friday the 16th of July 622 in the Julian calendar
abbrev pub IsIslamicEpoch : ℤ → Type 0
IsIslamicEpoch e = IsBetween (pos 227014) (pos 227015) e

-- of 30 years 11 are leap years
abbrev pub islamic_leap : ℤ → Bool
islamic_leap y = nat_lt (floor_mod (pos 11 *ℤ y +ℤ pos 14) 30) 11

-- the days of a year
abbrev pub islamic_year_length : ℤ → ℕ
islamic_year_length y = if islamic_leap y then 355 else 354

-- the day number of a year's first day, from the first day of year 1
unfoldable pub islamic_start : ℤ → ℤ → ℤ
islamic_start epoch y = epoch +ℤ pos 354 *ℤ (y -ℤ pos 1) +ℤ floor_div (pos 11 *ℤ y +ℤ pos 3) 30

-- the day number on which a mean year starts: 30 of them have 10631 days, and what is less than a day is left out
unfoldable pub islamic_mean_start : ℤ → ℤ
islamic_mean_start y = pos 227015 +ℤ int_div ((y -ℤ pos 1) *ℤ pos 10631) (pos 30)

-- a day, and the one a mean year later: 354 or 355 days
abbrev pub IsMeanYearApart : ℤ → ℤ → Type 0
IsMeanYearApart start next = (next ≡ start +ℤ pos 354) ⊎ (next ≡ start +ℤ pos 355)
