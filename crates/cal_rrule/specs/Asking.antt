-- What is known of a rule and its start.
use Rattle.std.specs.Prelude.{◌≡◌}
use Rattle.cal_days.specs.Day.{IsValidDay}
use Rattle.cal_types.specs.CalendarList.{CalendarList, Date, IsDate, day_number}
use Rattle.cal_rrule.specs.Looks.{AreMissing, IsMonthLook, look_stretch}
use Rattle.cal_rrule.specs.Stretches.{InStretch}
use Rattle.cal_rrule.specs.declared.asked.Asked.{Asked}

-- a rule starts on a date: its day is valid, and its month is the date's
pub record IsAsked (c : CalendarList) (t : Date) (asked : Asked) : Type 0 where
  pub are_missing : AreMissing asked.rule asked.missing
  pub is_valid : IsValidDay asked.day
  pub is_date : IsDate c t
  pub on_day : asked.day ≡ day_number c t
  pub on_day_of_month : asked.day_of_month ≡ t.day
  pub is_look : IsMonthLook c asked.month
  pub is_within : InStretch (look_stretch asked.month) asked.day
  pub in_year : asked.month.year ≡ t.year
  pub in_place : asked.month.place ≡ t.month
