-- What contracts see of a date.
use Rattle.std.specs.Prelude.{ℕ, Result, Ok, Err}
use Rattle.cal_days.specs.Day.{IsValidDay}
use Rattle.cal_types.specs.CalendarList.{Date, date, day_number, IsDate}
use Rattle.cal_arith.specs.declared.dates.Ymd.{Ymd}
use Rattle.cal_arith.specs.Given.{CalendarYears, IsGiven}

-- a year, the place of a month and a day
abbrev pub ymd : {Y : Type 0} → Y → ℕ → ℕ → Ymd Y
ymd y i d = record { year = y; month = i; day = d }

-- a date in extended years
abbrev pub date_of : {Y : Type 0} → CalendarYears Y → Ymd Y → Date
date_of years d = date (years.extended d.year) d.month d.day

-- the same of a call's answer
abbrev pub answer_of : {Y E : Type 0} → CalendarYears Y → Result (Ymd Y) E → Result Date E
answer_of years (Ok d) = Ok (date_of years d)
answer_of years (Err e) = Err e

-- a date's year is one that the calendar gave, and the calendar has the date
pub record IsGivenDate {Y : Type 0} (years : CalendarYears Y) (d : Ymd Y) : Type 0 where
  pub year : IsGiven years d.year
  pub date : IsDate years.list (date_of years d)

-- a date belongs to a calendar: its year is one that the calendar gave, the calendar has the date,
-- and its day number is in the valid range
pub record Belongs {Y : Type 0} (years : CalendarYears Y) (d : Ymd Y) : Type 0 where
  pub year : IsGiven years d.year
  pub date : IsDate years.list (date_of years d)
  pub valid : IsValidDay (day_number years.list (date_of years d))

-- a call's answer, whose dates are seen by a view
abbrev pub answer_by : {A E : Type 0} → (A → Date) → Result A E → Result Date E
answer_by view (Ok d) = Ok (view d)
answer_by view (Err e) = Err e
