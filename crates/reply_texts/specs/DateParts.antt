-- What the parts of a date, and those of a span, say.
use Rattle.std.specs.Prelude.{◌≡◌, ◌<◌, ℤ, Ok}
use Rattle.cal_days.specs.Day.{IsValidDay}
use Rattle.cal_types.specs.Bag.{Bag}
use Rattle.cal_types.specs.MonthParts.{month_parts}
use Rattle.cal_types.specs.Year.{extended_year_of}
use Rattle.cal_types.specs.declared.options.DateFromFieldsOptions.{DateFromFieldsOptions}
use Rattle.cal_types.specs.declared.duration.DateDurationUnit.{DateDurationUnit}
use Rattle.cal_types.specs.CalendarList.{Date, IsOn, day_number, month_at}
use Rattle.cal_types.specs.CalendarSystem.{CalendarSystem, resolve_fields}
use Rattle.cal_types.specs.Until.{IsUntil}
use Rattle.cal_types.specs.Spans.{RefusesBag}
use Rattle.cal_types.specs.declared.span_error.SpanError.{SpanError}
use Rattle.reply_texts.specs.declared.day_parts.DayParts.{DayParts}
use Rattle.reply_texts.specs.declared.span_parts.SpanParts.{SpanParts}

-- the day has two digits, and its number is valid
pub record IsDay (p : DayParts) : Type 0 where
  pub two_digits : p.day < 100
  pub valid : IsValidDay p.rata_die

-- the parts are those of a date
pub record IsDayParts (s : CalendarSystem) (t : Date) (p : DayParts) : Type 0 where
  pub year : p.year ≡ s.year_info t
  pub extended_year : extended_year_of p.year ≡ t.year
  pub month : month_parts p.month ≡ month_at s.list t.year t.month
  pub day : p.day ≡ t.day
  pub rata_die : p.rata_die ≡ day_number s.list t
  pub is_day : IsDay p

-- the parts are those of the date of a day
pub record IsShown (s : CalendarSystem) (day : ℤ) (p : DayParts) : Type 0 where
  pub date : Date
  pub on : IsOn s.list day date
  pub parts : IsDayParts s date p

-- the parts are those of the dates that two bags name, and of their difference, which leads back
pub record AreNamed (s : CalendarSystem) (first second : Bag) (options : DateFromFieldsOptions)
    (unit : DateDurationUnit) (p : SpanParts) : Type 0 where
  pub from_date : Date
  pub to_date : Date
  pub from : resolve_fields s first options ≡ Ok from_date
  pub to : resolve_fields s second options ≡ Ok to_date
  pub from_parts : IsDayParts s from_date p.from
  pub to_parts : IsDayParts s to_date p.to
  pub until : IsUntil s.list s.year_shift from_date to_date unit p.duration

-- a bag names no date, for this reason
pub record AreRefused (s : CalendarSystem) (first second : Bag) (options : DateFromFieldsOptions)
    (e : SpanError) : Type 0 where
  pub refuses : RefusesBag s first second options e.side e.cause
