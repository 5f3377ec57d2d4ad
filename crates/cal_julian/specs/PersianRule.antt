-- The leap years of the Persian calendar: those of the rule of 33 years, where it isn't corrected.
use Rattle.std.specs.Prelude.{◌≡◌, Bool, true, not, ◌&&◌, ◌||◌, if◌then◌else◌, List, ℤ, pos, ◌-ℤ◌, ◌<ℤ◌}
use Rattle.std.specs.List.{AllPairs, list_all, list_any}
use Rattle.std.specs.Ordering.{int_eq}
use Rattle.cal_days.specs.Day.{is_between}
use Rattle.cal_days.specs.Persian.{persian_leap, persian_start}

-- the years rise
abbrev pub IsRising : List ℤ → Type 0
IsRising years = AllPairs (λ y z. y <ℤ z) years

-- a year that may be corrected: one from 1 to 9999 that is a leap year by the rule
abbrev pub is_correctable : ℤ → Bool
is_correctable y = is_between (pos 1) (pos 9999) y && persian_leap y

abbrev pub AreCorrectable : List ℤ → Type 0
AreCorrectable years = list_all is_correctable years ≡ true

-- a year is one of the corrected years
abbrev pub is_corrected : List ℤ → ℤ → Bool
is_corrected years y = list_any (λ c. int_eq c y) years

-- a corrected year is a common year, and the next one is a leap year in its place
abbrev pub is_persian_leap : List ℤ → ℤ → Bool
is_persian_leap years y = (persian_leap y && not (is_corrected years y)) || is_corrected years (y -ℤ pos 1)

-- the year after a corrected one starts one day earlier than by the rule
abbrev pub persian_new_year : List ℤ → ℤ → ℤ
persian_new_year years y = if is_corrected years (y -ℤ pos 1) then persian_start y -ℤ pos 1 else persian_start y
