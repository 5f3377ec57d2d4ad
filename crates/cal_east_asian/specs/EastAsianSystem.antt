-- A Chinese or Korean calendar: its list, its years in the cycle of sixty, and what it says of its leap months.
-- Source: the reference years are those of ECMAScript Temporal's NonISOMonthDayToISOReferenceDate;
-- the cycle is that of Reingold and Dershowitz, Calendrical Calculations, chapter 19.
use Rattle.std.specs.Prelude.{ℕ, ℤ, pos, ◌+◌, ◌-ℤ◌, Bool, ◌&&◌, nat_eq, None, Result, Err, if◌then◌else◌}
use Rattle.cal_days.specs.Division.{floor_mod}
use Rattle.cal_types.specs.Month.{MonthParts}
use Rattle.cal_errors.specs.declared.errors.EcmaReferenceYearError.{EcmaReferenceYearError}
use Rattle.cal_errors.specs.declared.errors.EcmaReferenceYearError.TheVariants.{MonthNotInCalendar}
use Rattle.cal_types.specs.declared.month_info.LeapStatus.{LeapStatus}
use Rattle.cal_types.specs.declared.year.CyclicYear.{CyclicYear}
use Rattle.cal_types.specs.declared.year.YearInfo.TheVariants.{Cyclic}
use Rattle.cal_types.specs.CalendarList.{Date, date, month_count, is_valid_date}
use Rattle.cal_types.specs.CalendarSystem.{CalendarSystem}
use Rattle.cal_types.specs.YearNames.{YearNames}
use Rattle.cal_base.specs.OwnYears.{own_system}
use Rattle.cal_east_asian.specs.RuleYears.{rule_year}
use Rattle.cal_east_asian.specs.EastAsianPlaces.{is_east_asian_month, leap_status_of_place}
use Rattle.cal_east_asian.specs.EastAsianList.{east_asian_list, east_asian_years}
use Rattle.cal_arith.specs.declared.dates.Ymd.{Ymd}
use Rattle.cal_east_asian.specs.SameYears.{same_year}
use Rattle.cal_east_asian.specs.declared.east_asian_traditional_year.EastAsianTraditionalYear.{EastAsianTraditionalYear}

-- the year of the cycle: year 4 began one
abbrev pub cyclic_year : ℤ → CyclicYear
cyclic_year y = record { year = floor_mod (y -ℤ pos 4) 60 + 1; related_iso = y }

-- a year of 13 months is a leap year
abbrev pub east_asian_leap : (ℤ → EastAsianTraditionalYear) → ℤ → Bool
east_asian_leap year_of y = nat_eq (month_count (east_asian_list year_of) y) 13

-- how the month in a place stands to the leap month of its year
abbrev pub east_asian_leap_status : (ℤ → EastAsianTraditionalYear) → ℤ → ℕ → LeapStatus
east_asian_leap_status year_of y i = leap_status_of_place (year_of (rule_year y)).leap_month i

-- there is no era; the reference year of a month of the calendar is the one that its rules give
abbrev pub east_asian_names : (MonthParts → ℕ → Result ℤ EcmaReferenceYearError) → YearNames
east_asian_names reference = record {
  reads = λ _ _. None;
  reference = λ m d. if is_east_asian_month m then reference m d else Err MonthNotInCalendar;
}

abbrev pub east_asian_system : (ℤ → EastAsianTraditionalYear) → (MonthParts → ℕ → Result ℤ EcmaReferenceYearError)
    → CalendarSystem
east_asian_system year_of reference =
    own_system (east_asian_years year_of) (east_asian_names reference) (east_asian_leap year_of)
    (λ y. Cyclic (cyclic_year y)) (east_asian_leap_status year_of) (λ y i month. month)

-- the date that a kept date stands for
abbrev pub kept_date : Ymd EastAsianTraditionalYear → Date
kept_date d = date d.year.related_iso d.month d.day

-- its year is the rules' year of its number, it is a date of the list, and its day number is in the valid range
abbrev pub east_asian_belongs : (ℤ → EastAsianTraditionalYear) → Ymd EastAsianTraditionalYear → Bool
east_asian_belongs year_of d =
    same_year (year_of d.year.related_iso) d.year && is_valid_date (east_asian_list year_of) (kept_date d)
