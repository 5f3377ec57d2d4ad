-- The years of the Coptic calendar (Reingold and Dershowitz, Calendrical Calculations, chapter 4).
use Rattle.std.specs.Prelude.{ℕ, ◌+◌, ◌*◌, ◌/◌, Bool, ◌==◌, if◌then◌else◌, ℤ, pos, ◌+ℤ◌, ◌-ℤ◌, ◌*ℤ◌}
use Rattle.cal_days.specs.Division.{floor_div, floor_mod}

-- a leap year is each one before a year that 4 divides
abbrev pub coptic_leap : ℤ → Bool
coptic_leap y = floor_mod y 4 == 3

-- the days of a year
abbrev pub coptic_year_length : ℤ → ℕ
coptic_year_length y = if coptic_leap y then 366 else 365

-- the day number of a year's first day; that of year 1 is 103605
unfoldable pub coptic_start : ℤ → ℤ
coptic_start y = pos 103605 +ℤ pos 365 *ℤ (y -ℤ pos 1) +ℤ floor_div y 4

-- the days of n years in a row, of which the third is the first leap year
abbrev pub coptic_days : ℕ → ℕ
coptic_days n = 365 * n + (n + 1) / 4
