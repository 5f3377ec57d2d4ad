-- The years of the Julian calendar (Reingold and Dershowitz, Calendrical Calculations, chapter 3).
use Rattle.std.specs.Prelude.{ℕ, Bool, ◌==◌, if◌then◌else◌, ℤ, pos, ◌+ℤ◌, ◌-ℤ◌, ◌*ℤ◌}
use Rattle.cal_days.specs.Division.{floor_div, floor_mod}

-- every fourth year is a leap year
abbrev pub julian_leap : ℤ → Bool
julian_leap y = floor_mod y 4 == 0

-- the days of a year
abbrev pub julian_year_length : ℤ → ℕ
julian_year_length y = if julian_leap y then 366 else 365

-- the day number of a year's first day; that of year 1 is -1
unfoldable pub julian_start : ℤ → ℤ
julian_start y = pos 365 *ℤ (y -ℤ pos 1) +ℤ floor_div (y -ℤ pos 1) 4 -ℤ pos 1

-- the day number of a year's March 1, which is 306 days before the next year;
-- in a year that begins there a leap day comes last
abbrev pub julian_first_of_march : ℤ → ℤ
julian_first_of_march y = julian_start (y +ℤ pos 1) -ℤ pos 306
