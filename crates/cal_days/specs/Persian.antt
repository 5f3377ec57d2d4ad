-- The years of the Persian calendar by the rule of 33 years.
-- Source: the arithmetic of 33 years with 8 leap years, as icu_calendar has it.
use Rattle.std.specs.Prelude.{ℕ, Bool, nat_lt, if◌then◌else◌, ℤ, pos, ◌+ℤ◌, ◌-ℤ◌, ◌*ℤ◌}
use Rattle.cal_days.specs.Division.{floor_div, floor_mod}

-- of 33 years 8 are leap years
abbrev pub persian_leap : ℤ → Bool
persian_leap y = nat_lt (floor_mod (pos 25 *ℤ y +ℤ pos 11) 33) 8

-- the days of a year
abbrev pub persian_year_length : ℤ → ℕ
persian_year_length y = if persian_leap y then 366 else 365

-- the day number of a year's first day; that of year 1 is 226895
unfoldable pub persian_start : ℤ → ℤ
persian_start y = pos 226895 +ℤ pos 365 *ℤ (y -ℤ pos 1) +ℤ floor_div (pos 8 *ℤ y +ℤ pos 21) 33
