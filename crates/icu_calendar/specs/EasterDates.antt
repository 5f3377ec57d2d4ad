-- The dates of Easter, where the day is past the valid range, the nearest day of the range.
use Rattle.std.specs.Prelude.{ℤ}
use Rattle.cal_types.specs.CalendarList.{CalendarList, Date, IsOn}
use Rattle.icu_calendar.specs.Clamping.{clamped_day}

-- the date is on the day for which a rule speaks
pub record IsOnDayOf (rule : ℤ → Type 0) (c : CalendarList) (t : Date) : Type 0 where
  pub day : ℤ
  pub is : rule day
  pub on : IsOn c (clamped_day day) t
