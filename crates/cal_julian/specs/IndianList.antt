-- The Indian national calendar as a list of years.
-- Source: the report of India's Calendar Reform Committee (1955); a year begins on day 81 of a Gregorian year,
-- and is a leap year with it.
use Rattle.std.specs.Prelude.{ℕ, ◌-◌, Bool, true, nat_le, if◌then◌else◌, List, [], ◌∷◌, take, sum_by, slice_index_or, ℤ, pos, ◌+ℤ◌}
use Rattle.cal_days.specs.Gregorian.{gregorian_leap, gregorian_start}
use Rattle.cal_types.specs.CalendarList.{CalendarList, Entry, days_of, no_entry}
use Rattle.cal_types.specs.PlainMonths.{plain_entry, is_plain_month}
use Rattle.cal_arith.specs.Given.{CalendarYears}
use Rattle.cal_base.specs.declared.numbered_year.NumberedYear.{NumberedYear}

-- whether the Gregorian year in which it begins is a leap year
abbrev pub indian_leap : ℤ → Bool
indian_leap y = gregorian_leap (y +ℤ pos 78)

-- the day number of a year's first day: March 22 of that Gregorian year, and March 21 in a leap year
abbrev pub indian_start : ℤ → ℤ
indian_start y = gregorian_start (y +ℤ pos 78) +ℤ pos 80

-- a first month of 30 or 31 days, five months of 31, and six of 30
abbrev pub indian_months : Bool → List Entry
indian_months leap =
    plain_entry 1 (if leap then 31 else 30) ∷ plain_entry 2 31 ∷ plain_entry 3 31 ∷ plain_entry 4 31
    ∷ plain_entry 5 31 ∷ plain_entry 6 31 ∷ plain_entry 7 30 ∷ plain_entry 8 30
    ∷ plain_entry 9 30 ∷ plain_entry 10 30 ∷ plain_entry 11 30 ∷ plain_entry 12 30 ∷ []

-- the days of a month, in a leap year or a common one
abbrev pub indian_month_length : Bool → ℕ → ℕ
indian_month_length leap i = (slice_index_or (indian_months leap) (i - 1) no_entry).days

-- the days of such a year before a month
abbrev pub indian_days_before : Bool → ℕ → ℕ
indian_days_before leap i = sum_by days_of (take (i - 1) (indian_months leap))

-- the months of a year that begins with the second month, Vaisakha, are counted from 2 to 13:
-- 13 is the first month of the next year
abbrev pub vaisakha_month : ℕ → ℕ
vaisakha_month m = if nat_le m 12 then m else m - 12

-- the days from the first day of Vaisakha to that of such a month, which no leap day comes before
abbrev pub vaisakha_days_before : ℕ → ℕ
vaisakha_days_before m = if nat_le m 12 then indian_days_before true m - 31 else 335

-- day 28570 is the first day of year 1
unfoldable pub indian_list : CalendarList
indian_list = record {
  anchor_year = pos 1;
  anchor_day = pos 28570;
  entries = λ y. indian_months (indian_leap y);
  is_of_kind = is_plain_month 12;
  stand_in = λ m. m;
}

-- a year keeps its extended year
abbrev pub indian_years : CalendarYears NumberedYear
indian_years = record {
  list = indian_list;
  year_of = λ y. record { number = y };
  extended = λ y. y.number;
  offset = pos 0;
}
