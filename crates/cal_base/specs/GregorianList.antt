-- The months of the proleptic Gregorian calendar, as a list of years.
-- Source: Reingold and Dershowitz, Calendrical Calculations; ISO 8601.
use Rattle.std.specs.Prelude.{◌≡◌, ℕ, ◌+◌, ◌-◌, Bool, true, false, nat_le, if◌then◌else◌, List, [], ◌∷◌, take, sum_by, slice_index_or, ℤ, pos}
use Rattle.cal_types.specs.Month.{MonthParts}
use Rattle.cal_days.specs.Gregorian.{gregorian_leap}
use Rattle.cal_types.specs.CalendarList.{Entry, CalendarList, days_of, no_entry}
use Rattle.cal_types.specs.PlainMonths.{plain_entry, is_plain_month}

-- the months of a year, in which February has 28 or 29 days
abbrev pub gregorian_months : Bool → List Entry
gregorian_months leap =
    plain_entry 1 31 ∷ plain_entry 2 (if leap then 29 else 28) ∷ plain_entry 3 31 ∷ plain_entry 4 30
    ∷ plain_entry 5 31 ∷ plain_entry 6 30 ∷ plain_entry 7 31 ∷ plain_entry 8 31
    ∷ plain_entry 9 30 ∷ plain_entry 10 31 ∷ plain_entry 11 30 ∷ plain_entry 12 31 ∷ []

-- the days of a month, in a leap year or a common one
abbrev pub gregorian_month_length : Bool → ℕ → ℕ
gregorian_month_length leap i = (slice_index_or (gregorian_months leap) (i - 1) no_entry).days

-- the days of such a year before a month
abbrev pub gregorian_days_before : Bool → ℕ → ℕ
gregorian_days_before leap i = sum_by days_of (take (i - 1) (gregorian_months leap))

-- the months of a year that begins on March 1 are counted from 3 to 14:
-- 13 and 14 are January and February of the next year
abbrev pub march_month : ℕ → ℕ
march_month m = if nat_le m 12 then m else m - 12

-- the days from March 1 to the first day of such a month, which no leap day comes before
abbrev pub march_days_before : ℕ → ℕ
march_days_before m =
    if nat_le m 12 then gregorian_days_before false m - 59 else 306 + gregorian_days_before false (m - 12)

-- the most days that such a month has
abbrev pub march_month_most : ℕ → ℕ
march_month_most m = gregorian_month_length true (march_month m)

-- day 1 is the first day of year 1
unfoldable pub gregorian_list : CalendarList
gregorian_list = record {
  anchor_year = pos 1;
  anchor_day = pos 1;
  entries = λ y. gregorian_months (gregorian_leap y);
  is_of_kind = is_plain_month 12;
  stand_in = λ m. m;
}

-- a list has these months too, with leap years by a rule of its own
pub record HasGregorianMonths (leap : ℤ → Bool) (c : CalendarList) : Type 0 where
  pub entries : (y : ℤ) → c.entries y ≡ gregorian_months (leap y)
  pub kind : (m : MonthParts) → c.is_of_kind m ≡ is_plain_month 12 m
