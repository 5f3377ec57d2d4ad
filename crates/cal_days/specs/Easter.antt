-- The day of Easter of a year: the first Sunday after the ecclesiastical full moon,
-- which is counted back from April 19.
-- Source: Reingold and Dershowitz, Calendrical Calculations, chapter 9. Below year 1 the formulas are carried on.
use Rattle.std.specs.Prelude.{◌≡◌, ℕ, ◌+◌, ◌*◌, ◌%◌, Bool, ◌&&◌, ◌||◌, nat_eq, nat_lt, if◌then◌else◌, ℤ, pos, ◌+ℤ◌, ◌-ℤ◌, ◌*ℤ◌, ◌<ℤ◌, ◌≤ℤ◌}
use Rattle.cal_days.specs.Division.{floor_div, floor_mod}
use Rattle.cal_days.specs.Gregorian.{first_of_march}
use Rattle.cal_days.specs.Julian.{julian_first_of_march}

-- the first Sunday after a day, and not on it; day number 0 is a Sunday
abbrev pub IsSundayAfter : ℤ → ℤ → Type 0
IsSundayAfter day sunday = (floor_mod sunday 7 ≡ 0) × (day <ℤ sunday) × (sunday ≤ℤ (day +ℤ pos 7))

-- April 19 of a year
abbrev pub gregorian_april_19 : ℤ → ℤ
gregorian_april_19 y = first_of_march y +ℤ pos 49

abbrev pub julian_april_19 : ℤ → ℤ
julian_april_19 y = julian_first_of_march y +ℤ pos 49

-- the place of a year, from 0, in the Metonic cycle: the moons repeat after 19 years
abbrev pub metonic_year : ℤ → ℕ
metonic_year y = floor_mod y 19

-- the century of a year; that of the years 1 to 99 is 1
abbrev pub century_of : ℤ → ℤ
century_of y = floor_div y 100 +ℤ pos 1

-- the age of the moon, shifted so that it counts the days from the full moon to April 19:
-- it falls behind with the leap days that centuries drop, and gains 8 days in 25 centuries
abbrev pub gregorian_shifted_epact : ℕ → ℤ → ℕ
gregorian_shifted_epact m c =
    floor_mod (pos (14 + 11 * m) -ℤ floor_div (pos 3 *ℤ c) 4 +ℤ floor_div (pos 5 +ℤ pos 8 *ℤ c) 25) 30

-- where the full moon comes a day earlier, so that it is on April 18 at the latest, and on no day twice in 19 years
abbrev pub is_moon_earlier : ℕ → ℕ → Bool
is_moon_earlier epact m = nat_eq epact 0 || (nat_eq epact 1 && nat_lt 10 m)

abbrev pub adjusted_epact : ℕ → ℕ → ℕ
adjusted_epact epact m = epact + (if is_moon_earlier epact m then 1 else 0)

-- the days from the full moon to April 19
unfoldable pub gregorian_epact : ℤ → ℕ
gregorian_epact y = adjusted_epact (gregorian_shifted_epact (metonic_year y) (century_of y)) (metonic_year y)

unfoldable pub julian_epact : ℤ → ℕ
julian_epact y = (14 + 11 * metonic_year y) % 30

-- the day of Easter in the Gregorian calendar, and in the Julian
abbrev pub IsGregorianEaster : ℤ → ℤ → Type 0
IsGregorianEaster y easter = IsSundayAfter (gregorian_april_19 y -ℤ pos (gregorian_epact y)) easter

abbrev pub IsJulianEaster : ℤ → ℤ → Type 0
IsJulianEaster y easter = IsSundayAfter (julian_april_19 y -ℤ pos (julian_epact y)) easter
