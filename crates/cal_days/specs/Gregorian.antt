-- The years of the proleptic Gregorian calendar (Reingold and Dershowitz, Calendrical Calculations, chapter 2).
use Rattle.std.specs.Prelude.{ℕ, Bool, not, ◌&&◌, ◌||◌, ◌==◌, if◌then◌else◌, ℤ, pos, ◌+ℤ◌, ◌-ℤ◌, ◌*ℤ◌}
use Rattle.cal_days.specs.Division.{floor_div, floor_mod}

-- a leap year is every fourth, but of the centuries only every fourth
abbrev pub gregorian_leap : ℤ → Bool
gregorian_leap y = (floor_mod y 4 == 0) && (not (floor_mod y 100 == 0) || (floor_mod y 400 == 0))

-- the days of a year
abbrev pub gregorian_year_length : ℤ → ℕ
gregorian_year_length y = if gregorian_leap y then 366 else 365

-- the leap days of the years from 1 to y; below year 1, those of the years after y are taken away
unfoldable pub leap_days_through : ℤ → ℤ
leap_days_through y = floor_div y 4 -ℤ floor_div y 100 +ℤ floor_div y 400

-- the day number of a year's first day
unfoldable pub gregorian_start : ℤ → ℤ
gregorian_start y = pos 365 *ℤ (y -ℤ pos 1) +ℤ leap_days_through (y -ℤ pos 1) +ℤ pos 1

-- the day number of a year's March 1, which is 306 days before the next year;
-- in a year that begins there a leap day comes last
abbrev pub first_of_march : ℤ → ℤ
first_of_march y = gregorian_start (y +ℤ pos 1) -ℤ pos 306
