-- The months of a Hebrew year by their places, in closed form, for a year of n days.
use Rattle.std.specs.Prelude.{true, ℕ, ◌+◌, ◌-◌, ◌*◌, ◌/◌, ◌%◌, Bool, ◌&&◌, ◌||◌, ◌==◌, nat_eq, nat_le, nat_lt, if◌then◌else◌, Result, Ok, Err}
use Rattle.cal_days.specs.Hebrew.{IsHebrewLength}
use Rattle.cal_types.specs.Month.{MonthParts}
use Rattle.cal_errors.specs.declared.errors.MonthError.{MonthError}
use Rattle.cal_errors.specs.declared.errors.MonthError.TheVariants.{NotInCalendar, NotInYear}
use Rattle.cal_types.specs.declared.month_info.LeapStatus.{LeapStatus}
use Rattle.cal_types.specs.declared.month_info.LeapStatus.TheVariants.{Normal, Leap, Base}
use Rattle.cal_types.specs.declared.options.Overflow.{Overflow}
use Rattle.cal_types.specs.declared.options.Overflow.TheVariants.{Constrain, Reject}
use Rattle.cal_types.specs.PlainMonths.{numbered_month}
use Rattle.cal_hebrew.specs.HebrewList.{is_hebrew_month, fifth_leap_month}

-- leap years have 383 days or more
abbrev pub is_leap_length : ℕ → Bool
is_leap_length n = nat_le 383 n

-- in the longest years the second month has 30 days
abbrev pub is_complete : ℕ → Bool
is_complete n = n == 355 || n == 385

-- in the shortest years the third month has 29 days
abbrev pub is_deficient : ℕ → Bool
is_deficient n = n == 353 || n == 383

-- one of the six lengths
abbrev pub IsYearLength : ℕ → Type 0
IsYearLength n = IsHebrewLength (is_leap_length n) n

-- how many months the year has
abbrev pub place_count : ℕ → ℕ
place_count n = 12 + (if is_leap_length n then 1 else 0)

-- the days of the month in place i
abbrev pub place_length : ℕ → ℕ → ℕ
place_length n i =
    if nat_eq i 2 then (if is_complete n then 30 else 29) else (
    if nat_eq i 3 then (if is_deficient n then 29 else 30) else (
    if is_leap_length n && nat_le 6 i then 30 - i % 2 else 29 + i % 2))

-- the days before it, where the second month has 29 days and the third 30
abbrev pub regular_days_before : Bool → ℕ → ℕ
regular_days_before leap i = (59 * (i - 1) + (if leap && nat_lt 6 i then 2 else 1)) / 2

-- the days before it
abbrev pub days_before_place : ℕ → ℕ → ℕ
days_before_place n i =
    if is_deficient n && nat_lt 3 i then regular_days_before (is_leap_length n) i - 1 else (
    if is_complete n && nat_lt 2 i then regular_days_before (is_leap_length n) i + 1
    else regular_days_before (is_leap_length n) i)

-- the day of the year that day p would be if the second month had 29 days and the third 30, both counted from 0
abbrev pub regular_day : ℕ → ℕ → ℕ
regular_day n p = if is_complete n && nat_le 59 p then p - 1 else (if is_deficient n && nat_le 88 p then p + 1 else p)

-- the place of the month that contains it
abbrev pub place_of_regular_day : Bool → ℕ → ℕ
place_of_regular_day leap q = (if leap && nat_le 148 q then 2 * q - 1 else 2 * q) / 59 + 1

abbrev pub place_of_day : ℕ → ℕ → ℕ
place_of_day n p = place_of_regular_day (is_leap_length n) (regular_day n p)

-- the month in place i of a leap year, or of a common one
abbrev pub month_of_place : Bool → ℕ → MonthParts
month_of_place leap i =
    if leap && nat_eq i 6 then fifth_leap_month else (
    if leap && nat_lt 6 i then numbered_month (i - 1) else numbered_month i)

-- the place of the leap month, or of what stands in for it
abbrev pub leap_month_place : Bool → Overflow → Result ℕ MonthError
leap_month_place leap Constrain = Ok 6
leap_month_place leap Reject = if leap then Ok 6 else Err NotInYear

-- the place of a plain month
abbrev pub plain_month_place : Bool → ℕ → ℕ
plain_month_place leap k = if leap && nat_le 6 k then k + 1 else k

-- the place of a month
abbrev pub hebrew_place : Bool → MonthParts → Overflow → Result ℕ MonthError
hebrew_place leap m o =
    if is_hebrew_month m
    then (if m.is_leap then leap_month_place leap o else Ok (plain_month_place leap m.number))
    else Err NotInCalendar

-- in a leap year the sixth place has the leap month, and the seventh the month beside it
abbrev pub leap_status_of_place : Bool → ℕ → LeapStatus
leap_status_of_place leap i = if leap && nat_eq i 6 then Leap else (if leap && nat_eq i 7 then Base else Normal)

-- which is formatted as the leap month of the number 6
abbrev pub formatted_month_of_place : Bool → ℕ → MonthParts → MonthParts
formatted_month_of_place leap i month = if leap && nat_eq i 7 then record { number = 6; is_leap = true } else month
