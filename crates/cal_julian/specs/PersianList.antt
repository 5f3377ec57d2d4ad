-- The Persian calendar as a list of years.
-- Source: the months of the calendar of Iran's law of 1925, and the rule of 33 years with its corrections.
use Rattle.std.specs.Prelude.{ℕ, ◌-◌, Bool, if◌then◌else◌, List, [], ◌∷◌, take, sum_by, slice_index_or, ℤ, pos}
use Rattle.cal_types.specs.CalendarList.{CalendarList, Entry, days_of, no_entry}
use Rattle.cal_types.specs.PlainMonths.{plain_entry, is_plain_month}
use Rattle.cal_arith.specs.Given.{CalendarYears}
use Rattle.cal_julian.specs.PersianRule.{is_persian_leap}
use Rattle.cal_base.specs.declared.numbered_year.NumberedYear.{NumberedYear}

-- six months of 31 days, five of 30, and one of 29 or, in leap years, 30
abbrev pub persian_months : Bool → List Entry
persian_months leap =
    plain_entry 1 31 ∷ plain_entry 2 31 ∷ plain_entry 3 31 ∷ plain_entry 4 31 ∷ plain_entry 5 31 ∷ plain_entry 6 31
    ∷ plain_entry 7 30 ∷ plain_entry 8 30 ∷ plain_entry 9 30 ∷ plain_entry 10 30 ∷ plain_entry 11 30
    ∷ plain_entry 12 (if leap then 30 else 29) ∷ []

-- the days of a month, in a leap year or a common one
abbrev pub persian_month_length : Bool → ℕ → ℕ
persian_month_length leap i = (slice_index_or (persian_months leap) (i - 1) no_entry).days

-- the days of a year before a month, in which the last month doesn't count
abbrev pub persian_days_before : Bool → ℕ → ℕ
persian_days_before leap i = sum_by days_of (take (i - 1) (persian_months leap))

-- day 226895 is the first day of year 1
unfoldable pub persian_list : List ℤ → CalendarList
persian_list corrections = record {
  anchor_year = pos 1;
  anchor_day = pos 226895;
  entries = λ y. persian_months (is_persian_leap corrections y);
  is_of_kind = is_plain_month 12;
  stand_in = λ m. m;
}

-- a year keeps its extended year
abbrev pub persian_years : List ℤ → CalendarYears NumberedYear
persian_years corrections = record {
  list = persian_list corrections;
  year_of = λ y. record { number = y };
  extended = λ y. y.number;
  offset = pos 0;
}
