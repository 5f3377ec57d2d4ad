-- The Coptic calendar as a list of years.
-- Source: Reingold and Dershowitz, Calendrical Calculations, chapter 4.
use Rattle.std.specs.Prelude.{ℕ, ◌-◌, Bool, if◌then◌else◌, List, [], ◌∷◌, slice_index_or, ℤ, pos}
use Rattle.cal_days.specs.Coptic.{coptic_leap}
use Rattle.cal_types.specs.CalendarList.{CalendarList, Entry, no_entry}
use Rattle.cal_types.specs.PlainMonths.{plain_entry, is_plain_month}
use Rattle.cal_arith.specs.Given.{CalendarYears}
use Rattle.cal_base.specs.declared.numbered_year.NumberedYear.{NumberedYear}

-- twelve months of 30 days, and the epagomenal days, which are 5 or 6
abbrev pub coptic_months : Bool → List Entry
coptic_months leap =
    plain_entry 1 30 ∷ plain_entry 2 30 ∷ plain_entry 3 30 ∷ plain_entry 4 30
    ∷ plain_entry 5 30 ∷ plain_entry 6 30 ∷ plain_entry 7 30 ∷ plain_entry 8 30
    ∷ plain_entry 9 30 ∷ plain_entry 10 30 ∷ plain_entry 11 30 ∷ plain_entry 12 30
    ∷ plain_entry 13 (if leap then 6 else 5) ∷ []

-- the days of a month, in a leap year or a common one
abbrev pub coptic_month_length : Bool → ℕ → ℕ
coptic_month_length leap i = (slice_index_or (coptic_months leap) (i - 1) no_entry).days

-- day 103605 is the first day of year 1
unfoldable pub coptic_list : CalendarList
coptic_list = record {
  anchor_year = pos 1;
  anchor_day = pos 103605;
  entries = λ y. coptic_months (coptic_leap y);
  is_of_kind = is_plain_month 13;
  stand_in = λ m. m;
}

-- the year of a number
abbrev pub coptic_year : ℤ → NumberedYear
coptic_year number = record { number = number }

-- the years of the Coptic calendar, which keep their extended year
abbrev pub coptic_years : CalendarYears NumberedYear
coptic_years = record {
  list = coptic_list;
  year_of = coptic_year;
  extended = λ y. y.number;
  offset = pos 0;
}
