-- Making a date of a year, a month and a day, of which none is changed: the date, or the first fault.
-- Source: `Date::try_new` of icu_calendar.
use Rattle.std.specs.Prelude.{ℕ, ℤ, ◌&&◌, nat_le, Option, Some, None, Result, Ok, Err, if◌then◌else◌}
use Rattle.cal_days.specs.Day.{is_constructor_year}
use Rattle.cal_types.specs.Month.{MonthParts}
use Rattle.cal_types.specs.declared.year.YearInput.{YearInput}
use Rattle.cal_types.specs.declared.year.YearInput.TheVariants.{Extended, EraYear}
use Rattle.cal_types.specs.declared.options.Overflow.TheVariants.{Reject}
use Rattle.cal_errors.specs.declared.errors.DateNewError.{DateNewError}
use Rattle.cal_errors.specs.declared.errors.DateNewError.TheVariants.{InvalidYear, InvalidEra, MonthNotInCalendar, MonthNotInYear, InvalidDay}
use Rattle.cal_types.specs.CalendarList.{CalendarList, Date, date, month_length, spot}
use Rattle.cal_types.specs.YearNames.{YearNames}

-- the number of the year, in its era or without one
abbrev pub year_given : YearInput → ℤ
year_given (Extended y) = y
year_given (EraYear era y) = y

-- a day of a month in its place
abbrev pub made_day : CalendarList → ℤ → ℕ → ℕ → Result Date DateNewError
made_day c y i d =
    if nat_le 1 d && nat_le d (month_length c y i) then Ok (date y i d) else Err (InvalidDay (month_length c y i))

-- a day of a month that the calendar knows, whose place is given where the year has the month
abbrev pub made_month : CalendarList → ℤ → Option ℕ → ℕ → Result Date DateNewError
made_month c y None d = Err MonthNotInYear
made_month c y (Some i) d = made_day c y i d

-- a day of a month of a year
abbrev pub made_in_year : CalendarList → ℤ → MonthParts → ℕ → Result Date DateNewError
made_in_year c y m d = if c.is_of_kind m then made_month c y (spot c y m Reject) d else Err MonthNotInCalendar

-- the extended year of the input, where its era is read
abbrev pub year_read : YearNames → YearInput → Option ℤ
year_read names (Extended y) = Some y
year_read names (EraYear era y) = names.reads era.now y

-- a month and a day of a year, where the year is read
abbrev pub made_of_year : CalendarList → Option ℤ → MonthParts → ℕ → Result Date DateNewError
made_of_year c None m d = Err InvalidEra
made_of_year c (Some y) m d = made_in_year c y m d

-- in the order of the steps: the range of the given year, its era, the month, its place, and the day
unfoldable pub made_date : CalendarList → YearNames → YearInput → MonthParts → ℕ → Result Date DateNewError
made_date c names input m d =
    if is_constructor_year (year_given input) then made_of_year c (year_read names input) m d else Err InvalidYear
