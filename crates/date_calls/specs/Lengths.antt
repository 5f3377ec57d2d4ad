-- How long the year and the month of a day are.
use Rattle.std.specs.Prelude.{◌≡◌, ℕ, ℤ, MatchBool}
use Rattle.cal_days.specs.Day.{is_valid_day}
use Rattle.cal_types.specs.CalendarList.{Date, IsOn, month_count, month_length, year_length}
use Rattle.cal_types.specs.CalendarSystem.{CalendarSystem}
use Rattle.date_calls.specs.Calls.{IsLeft}
use Rattle.date_calls.specs.declared.lengths.CalendarLengths.{CalendarLengths}

-- the lengths of the year and of the month of a day's date
pub record AreLengths (s : CalendarSystem) (day : ℤ) (lengths : CalendarLengths) : Type 0 where
  pub date : Date
  pub on : IsOn s.list day date
  pub days_in_year : lengths.days_in_year ≡ year_length s.list date.year
  pub months_in_year : lengths.months_in_year ≡ month_count s.list date.year
  pub days_in_month : lengths.days_in_month ≡ month_length s.list date.year date.month

-- they are told
pub record TellsLengths (s : CalendarSystem) (day : ℤ) (code : ℕ) (now : CalendarLengths) : Type 0 where
  pub done : code ≡ 0
  pub are : AreLengths s day now

abbrev pub ShowsLengths : CalendarSystem → ℤ → ℕ → CalendarLengths → CalendarLengths → Type 0
ShowsLengths s day code before now =
    MatchBool (is_valid_day day) (TellsLengths s day code now) (IsLeft 4 code before now)
