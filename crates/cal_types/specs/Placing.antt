-- Making a date of a year, an ordinal month and a day, of which none is changed:
-- the date, or the first argument that is out of its range.
-- Source: `Date::try_new_iso` and its sisters of icu_calendar.
use Rattle.std.specs.Prelude.{ℕ, ℤ, pos, neg_ℤ, ◌&&◌, nat_le, List, Option, Some, None, Result, Ok, Err, codes, if◌then◌else◌}
use Rattle.cal_days.specs.Day.{is_constructor_year}
use Rattle.cal_errors.specs.RangeParts.{RangeParts, DateFault, OutOfRange, NoEra}
use Rattle.cal_errors.specs.declared.errors.DateNewError.{DateNewError}
use Rattle.cal_errors.specs.declared.errors.DateNewError.TheVariants as new_date
use Rattle.cal_errors.specs.declared.errors.LunisolarDateError.{LunisolarDateError}
use Rattle.cal_errors.specs.declared.errors.LunisolarDateError.TheVariants as lunisolar
use Rattle.cal_types.specs.CalendarList.{CalendarList, Date, date, month_count, month_length}
use Rattle.cal_types.specs.YearNames.{YearNames}

-- a value that isn't from min to max
abbrev pub out_of_range : List ℕ → ℤ → ℤ → ℤ → RangeParts
out_of_range field value min max = record { field = field; value = value; min = min; max = max }

-- constructors take the years from -9999 to 9999
abbrev pub year_out_of_range : ℤ → RangeParts
year_out_of_range y = out_of_range (codes "year") y (neg_ℤ (pos 9999)) (pos 9999)

-- a day of the month in a place of a year
abbrev pub placed_day : CalendarList → ℤ → ℕ → ℕ → Result Date RangeParts
placed_day c y i d =
    let last = month_length c y i in
    if nat_le 1 d && nat_le d last then Ok (date y i d) else Err (out_of_range (codes "day") (pos d) (pos 1) (pos last))

-- an ordinal month and a day of a year
abbrev pub placed_in_year : CalendarList → ℤ → ℕ → ℕ → Result Date RangeParts
placed_in_year c y i d =
    let last = month_count c y in
    if nat_le 1 i && nat_le i last then placed_day c y i d
    else Err (out_of_range (codes "month") (pos i) (pos 1) (pos last))

-- in the order of the steps: the range of the year, of the ordinal month, and of the day
unfoldable pub placed_date : CalendarList → ℤ → ℕ → ℕ → Result Date RangeParts
placed_date c y i d = if is_constructor_year y then placed_in_year c y i d else Err (year_out_of_range y)

-- a date, or the argument that is out of its range
abbrev pub date_or_fault : Result Date RangeParts → Result Date DateFault
date_or_fault (Ok t) = Ok t
date_or_fault (Err e) = Err (OutOfRange e)

-- an ordinal month and a day of the extended year of an era, where the calendar reads it
abbrev pub placed_in_era : CalendarList → Option ℤ → ℕ → ℕ → Result Date DateFault
placed_in_era c None i d = Err NoEra
placed_in_era c (Some y) i d = date_or_fault (placed_in_year c y i d)

-- in the order of the steps: the range of the year in its era, the era, and the ranges of the ordinal month and the day
unfoldable pub placed_of_era : CalendarList → YearNames → List ℕ → ℤ → ℕ → ℕ → Result Date DateFault
placed_of_era c names era y i d =
    if is_constructor_year y then placed_in_era c (names.reads era y) i d else Err (OutOfRange (year_out_of_range y))

-- the fault of a lunisolar date of an extended year, which names no era
abbrev pub lunisolar_fault : DateNewError → LunisolarDateError
lunisolar_fault new_date.InvalidYear = lunisolar.InvalidYear
lunisolar_fault new_date.InvalidEra = lunisolar.InvalidYear
lunisolar_fault new_date.MonthNotInCalendar = lunisolar.MonthNotInCalendar
lunisolar_fault new_date.MonthNotInYear = lunisolar.MonthNotInYear
lunisolar_fault (new_date.InvalidDay max) = lunisolar.InvalidDay max

abbrev pub lunisolar_answer : Result Date DateNewError → Result Date LunisolarDateError
lunisolar_answer (Ok t) = Ok t
lunisolar_answer (Err e) = Err (lunisolar_fault e)
