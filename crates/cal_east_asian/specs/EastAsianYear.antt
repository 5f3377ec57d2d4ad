-- The parts of a year of a Chinese or Korean calendar: its number, its first day and the place of its leap month.
use Rattle.std.specs.Prelude.{ℕ, ◌+◌, Bool, ◌&&◌, ◌||◌, nat_eq, nat_le, if◌then◌else◌, IsTrue, ℤ, pos, ◌+ℤ◌, ◌-ℤ◌, unsigned_abs}
use Rattle.cal_days.specs.Day.{IsBetween, IsRuleYear}
use Rattle.cal_days.specs.Gregorian.{gregorian_start}

-- January 19 of an ISO year
abbrev pub january_19 : ℤ → ℤ
january_19 y = gregorian_start y +ℤ pos 18

-- a year starts 0 to 34 days after January 19 of its number
abbrev pub IsNewYear : ℤ → ℤ → Type 0
IsNewYear y day = IsBetween (january_19 y) (january_19 y +ℤ pos 34) day

-- how many days after January 19 of its number a year starts
abbrev pub days_after_january_19 : ℤ → ℤ → ℕ
days_after_january_19 y day = unsigned_abs (day -ℤ january_19 y)

-- the place of a leap month, or 0 where there is none
abbrev pub is_leap_place : ℕ → Bool
is_leap_place p = nat_eq p 0 || (nat_le 2 p && nat_le p 13)

-- the months of a year with its leap month in a place
abbrev pub months_of_year : ℕ → ℕ
months_of_year p = 12 + (if nat_eq p 0 then 0 else 1)

-- the number is a rule year, the year starts near January 19, and its leap month has a place from 2 to 13
abbrev pub IsEastAsianYear : ℤ → ℤ → ℕ → Type 0
IsEastAsianYear y day p = IsRuleYear y × (IsNewYear y day × IsTrue (is_leap_place p))
