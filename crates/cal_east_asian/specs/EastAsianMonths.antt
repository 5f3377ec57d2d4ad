-- The months of a year of a Chinese or Korean calendar,
-- by the place of its leap month and a bit for each month of 30 days.
use Rattle.std.specs.Prelude.{ℕ, zero, suc, ◌+◌, ◌-◌, ◌/◌, ◌%◌, ◌||◌, nat_eq, nat_lt, if◌then◌else◌, List, [], ◌∷◌}
use Rattle.cal_types.specs.Month.{MonthParts}
use Rattle.cal_types.specs.CalendarList.{Entry}
use Rattle.cal_east_asian.specs.EastAsianYear.{months_of_year}

-- the month in a place from 1: the leap month, which has the number of the month before it, or a plain month
abbrev pub month_in_place : ℕ → ℕ → MonthParts
month_in_place p i = record { number = if nat_eq p 0 || nat_lt i p then i else i - 1; is_leap = nat_eq i p }

-- n months from a place on, whose lengths the lowest bits tell: 30 days where the bit is 1, and else 29
abbrev pub entries_by : ℕ → ℕ → ℕ → ℕ → List Entry
entries_by p i zero bits = []
entries_by p i (suc n) bits =
    record { month = month_in_place p i; days = 29 + bits % 2 } ∷ entries_by p (i + 1) n (bits / 2)

-- the months of a year
abbrev pub year_entries : ℕ → ℕ → List Entry
year_entries p bits = entries_by p 1 (months_of_year p) bits
