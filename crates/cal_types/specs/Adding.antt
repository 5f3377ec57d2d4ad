-- Adding a duration to a date.
-- Source: ECMAScript Temporal's NonISODateAdd.
use Rattle.std.specs.Prelude.{◌≡◌, ℕ, ◌+◌, ◌*◌, min, Bool, true, false, ◌&&◌, nat_lt, Option, None, Some, MatchOption, Result, Ok, Err, ℤ, ◌+ℤ◌}
use Rattle.std.specs.Bool.{MatchBool}
use Rattle.cal_types.specs.declared.options.Overflow.{Overflow}
use Rattle.cal_types.specs.declared.options.Overflow.TheVariants.{Constrain, Reject}
use Rattle.cal_types.specs.declared.duration.DateDuration.{DateDuration}
use Rattle.cal_errors.specs.declared.errors.DateAddError.{DateAddError}
use Rattle.cal_errors.specs.declared.errors.DateAddError.TheVariants as fault
use Rattle.cal_days.specs.Day.{is_valid_day, is_field_year, are_addable_years, are_addable_months, are_addable_days}
use Rattle.cal_types.specs.CalendarList.{spot, CalendarList, Date, date, month_at, month_length, day_number, IsOn, IsMonthsAfter}
use Rattle.cal_types.specs.Difference.{toward}

-- a duration that is small enough to be added: at most 2080000 years, 27040000 months,
-- and 838240000 days with seven for a week
abbrev pub is_addable : DateDuration → Bool
is_addable u = are_addable_years u.years && are_addable_months u.months && are_addable_days (7 * u.weeks + u.days)

-- whether a day that the month lacks is refused
abbrev pub is_reject : Overflow → Bool
is_reject Reject = true
is_reject Constrain = false

-- which overflow an option asks for: Constrain, where it is left out
abbrev pub add_overflow_of : Option Overflow → Overflow
add_overflow_of None = Constrain
add_overflow_of (Some o) = o

-- the date of a day number, where it is in the valid range
abbrev pub IsValidOn : CalendarList → ℤ → Result Date DateAddError → Type 0
IsValidOn c n r = MatchBool (is_valid_day n) ((t : Date) × IsOn c n t × (r ≡ Ok t)) (r ≡ Err fault.Overflow)

-- from the month that years and months lead to: the day is at most its last one,
-- and weeks and days are counted from there
abbrev pub IsSumFromMonth : CalendarList → ℤ → ℕ → ℕ → DateDuration → Overflow → Result Date DateAddError → Type 0
IsSumFromMonth c y i d u o r =
    let last = month_length c y i in
    MatchBool (is_reject o && nat_lt last d)
    (r ≡ Err (fault.InvalidDay last))
    (IsValidOn c (day_number c (date y i (min d last)) +ℤ toward u.is_negative (7 * u.weeks + u.days)) r)

-- r is the date t with the duration u added, or the first fault;
-- `shift` is added to the year where its limit is tested, for a calendar that counts its years from another's
abbrev pub IsSum : CalendarList → ℤ → Date → DateDuration → Overflow → Result Date DateAddError → Type 0
IsSum c shift t u o r =
    let y = t.year +ℤ toward u.is_negative u.years in
    MatchBool (is_addable u && is_field_year (y +ℤ shift))
    (MatchOption (spot c y (month_at c t.year t.month) o)
    (r ≡ Err fault.MonthNotInYear)
    (λ i. (z : ℤ) × (j : ℕ) × IsMonthsAfter c y i (toward u.is_negative u.months) z j
    × IsSumFromMonth c z j t.day u o r))
    (r ≡ Err fault.Overflow)
