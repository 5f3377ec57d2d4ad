-- The first days of the months of a year and of the next year's first month.
use Rattle.std.specs.Prelude.{ℕ, ◌+◌, ◌-◌, ◌≤◌, ◌&&◌, nat_le, if◌then◌else◌, List, slice_index_or, Option, Some, None, ℤ, pos, ◌-ℤ◌, ◌≡◌}
use Rattle.cal_days.specs.Day.{IsBetween, IsRuleYear}
use Rattle.cal_east_asian.specs.EastAsianYear.{IsNewYear, months_of_year}
use Rattle.cal_east_asian.specs.EastAsianPlaces.{month_days}

abbrev pub start_at : List ℤ → ℕ → ℤ
start_at starts i = slice_index_or starts i (pos 0)

-- how many days the month in a place has
abbrev pub days_between : List ℤ → ℕ → ℤ
days_between starts i = start_at starts i -ℤ start_at starts (i - 1)

-- each month after one place up to another has 29 or 30 days
abbrev pub HaveMonthLengths : List ℤ → ℕ → ℕ → Type 0
HaveMonthLengths starts after last =
    (i : ℕ) → after + 1 ≤ i → i ≤ last → IsBetween (pos 29) (pos 30) (days_between starts i)

-- the months of a year have the days that lie between the starts
abbrev pub HaveLengthsOf : List ℤ → ℕ → ℕ → Type 0
HaveLengthsOf starts last long = (i : ℕ) → 1 ≤ i → i ≤ last → pos (month_days long i) ≡ days_between starts i

-- the place of the leap month where a place is given, and otherwise 0; a leap month has a place from 2 to 13
abbrev pub leap_place_read : Option ℕ → Option ℕ
leap_place_read None = Some 0
leap_place_read (Some p) = if nat_le 2 p && nat_le p 13 then Some p else None

-- a place of the leap month, or that there is none
abbrev pub leap_place_shown : ℕ → Option ℕ
leap_place_shown p = if nat_le 1 p then Some p else None

-- the starts are those of a year of this number with its leap month in place p
pub record AreMonthStarts (y : ℤ) (starts : List ℤ) (p : ℕ) : Type 0 where
  pub year : IsRuleYear y
  pub start : IsNewYear y (start_at starts 0)
  pub lengths : HaveMonthLengths starts 0 (months_of_year p)

-- the same where the leap month is given by a place or by none
abbrev pub AreYearStarts : ℤ → List ℤ → Option ℕ → Type 0
AreYearStarts y starts leap = (p : ℕ) × (leap_place_read leap ≡ Some p) × AreMonthStarts y starts p
