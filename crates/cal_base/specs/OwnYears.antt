-- The years and dates of a calendar whose years are its own, and the calendar that they make.
use Rattle.std.specs.Prelude.{◌≡◌, ◌&&◌, Bool, ℕ, ℤ}
use Rattle.cal_days.specs.Day.{IsFieldYear}
use Rattle.cal_types.specs.Month.{MonthParts}
use Rattle.cal_types.specs.declared.month_info.LeapStatus.{LeapStatus}
use Rattle.cal_types.specs.declared.year.YearInfo.{YearInfo}
use Rattle.cal_types.specs.CalendarList.{month_at, start_of_year, is_valid_date}
use Rattle.cal_types.specs.CalendarSystem.{CalendarSystem}
use Rattle.cal_types.specs.YearNames.{YearNames}
use Rattle.cal_arith.specs.declared.dates.Ymd.{Ymd}
use Rattle.cal_arith.specs.Dates.{date_of}
use Rattle.cal_arith.specs.Given.{CalendarYears, IsGiven}

-- a year that the calendar gave, and that fields may name
pub record IsOwnYear {Y : Type 0} (years : CalendarYears Y) (y : Y) : Type 0 where
  pub given : IsGiven years y
  pub field : IsFieldYear (years.extended y)

-- a date of the list with a valid day, in a year that the calendar has
abbrev pub is_own_date : {Y : Type 0} → CalendarYears Y → (Y → Bool) → Ymd Y → Bool
is_own_date years has_year d = has_year d.year && is_valid_date years.list (date_of years d)

-- another calendar gave the year too, and it has the same first day and the same months in both
pub record IsSharedYear {Y : Type 0} (years other : CalendarYears Y) (y : Y) : Type 0 where
  pub given : IsGiven other y
  pub start : start_of_year other.list (other.extended y) ≡ start_of_year years.list (years.extended y)
  pub months : other.list.entries (other.extended y) ≡ years.list.entries (years.extended y)

-- the calendar of such years: how they are named otherwise; which are leap years; the name of a year;
-- how a month stands to leap months, and the month by which it is formatted, given the month
abbrev pub own_system : {Y : Type 0} → CalendarYears Y → YearNames → (ℤ → Bool) → (ℤ → YearInfo) → (ℤ → ℕ → LeapStatus)
    → (ℤ → ℕ → MonthParts → MonthParts) → CalendarSystem
own_system years names is_leap_year year_named leap_status formatted_month = record {
  list = years.list;
  year_names = names;
  is_leap_year = is_leap_year;
  year_info = λ t. year_named t.year;
  leap_status = leap_status;
  formatted_month = λ y i. formatted_month y i (month_at years.list y i);
  year_shift = years.offset;
}
