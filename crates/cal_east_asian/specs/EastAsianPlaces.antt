-- The months of a Chinese or Korean year by their places, in closed form: for a year whose leap month has the place p,
-- or 0 without one.
use Rattle.std.specs.Prelude.{ℕ, zero, suc, ◌+◌, ◌-◌, ◌/◌, ◌%◌, ◌^◌, Bool, ◌&&◌, ◌||◌, nat_eq, nat_le, nat_lt, if◌then◌else◌, Result, Ok, Err}
use Rattle.cal_types.specs.Month.{MonthParts}
use Rattle.cal_errors.specs.declared.errors.MonthError.{MonthError}
use Rattle.cal_errors.specs.declared.errors.MonthError.TheVariants.{NotInCalendar, NotInYear}
use Rattle.cal_types.specs.declared.month_info.LeapStatus.{LeapStatus}
use Rattle.cal_types.specs.declared.month_info.LeapStatus.TheVariants.{Normal, Leap, Base}
use Rattle.cal_types.specs.declared.options.Overflow.{Overflow}
use Rattle.cal_types.specs.declared.options.Overflow.TheVariants.{Constrain, Reject}

-- the plain months 1 to 12, and the leap months of these numbers
abbrev pub is_east_asian_month : MonthParts → Bool
is_east_asian_month m = nat_le 1 m.number && nat_le m.number 12

-- the days of the month in place i: 30 where its bit is set
abbrev pub month_days : ℕ → ℕ → ℕ
month_days long i = 29 + long / 2 ^ (i - 1) % 2

-- the days of the first n months
abbrev pub days_of_months : ℕ → ℕ → ℕ
days_of_months long zero = 0
days_of_months long (suc n) = days_of_months long n + month_days long (n + 1)

-- the place of a plain month
abbrev pub plain_month_place : ℕ → ℕ → ℕ
plain_month_place p k = if nat_eq p 0 || nat_lt k p then k else k + 1

-- the place of a leap month that the year lacks: under Constrain that of the plain month of its number
abbrev pub absent_month_place : ℕ → ℕ → Overflow → Result ℕ MonthError
absent_month_place p k Constrain = Ok (plain_month_place p k)
absent_month_place p k Reject = Err NotInYear

-- the place of a leap month, which the year has where it has the number of the month before place p
abbrev pub leap_month_place : ℕ → ℕ → Overflow → Result ℕ MonthError
leap_month_place p k o = if nat_eq p (k + 1) then Ok p else absent_month_place p k o

-- the place of a month
abbrev pub east_asian_place : ℕ → MonthParts → Overflow → Result ℕ MonthError
east_asian_place p m o =
    if is_east_asian_month m
    then (if m.is_leap then leap_month_place p m.number o else Ok (plain_month_place p m.number))
    else Err NotInCalendar

-- the month right before the leap month is its base
abbrev pub leap_status_of_place : ℕ → ℕ → LeapStatus
leap_status_of_place p i = if nat_eq i p then Leap else (if nat_eq (i + 1) p then Base else Normal)
