-- What a difference of two bags, and the dates in it, say.
use Rattle.std.specs.Prelude.{◌≡◌, Result, Ok, Err}
use Rattle.icu_calendar.specs.declared.span_answer.Span.{Span}
use Rattle.cal_types.specs.declared.span_error.SpanError.{SpanError}
use Rattle.cal_any.specs.declared.any_calendar.AnyCalendar.{AnyCalendar}
use Rattle.cal_any.specs.AnySystem.{any_date}
use Rattle.cal_types.specs.CalendarList.{Date}
use Rattle.cal_types.specs.Spans.{SpanDates}
use Rattle.cal_types.specs.declared.duration.DateDuration.{DateDuration}

-- dates that two calendars keep, and a duration
abbrev pub span_dates_in : {D : Type 0} → (date_of shown_date_of : D → Date) (from from_shown to to_shown : D)
    → DateDuration → SpanDates
span_dates_in date_of shown_date_of from from_shown to to_shown duration = record {
  from = date_of from;
  from_shown = shown_date_of from_shown;
  to = date_of to;
  to_shown = shown_date_of to_shown;
  duration = duration;
}

-- the dates that a span holds, and its duration
abbrev pub span_dates : Span → SpanDates
span_dates s = record {
  from = any_date s.from.calendar s.from.inner;
  from_shown = any_date s.from_shown.calendar s.from_shown.inner;
  to = any_date s.to.calendar s.to.inner;
  to_shown = any_date s.to_shown.calendar s.to_shown.inner;
  duration = s.duration;
}

abbrev pub span_answer : Result Span SpanError → Result SpanDates SpanError
span_answer (Ok s) = Ok (span_dates s)
span_answer (Err e) = Err e

-- the dates are those of the two calendars
pub record HasCalendars (c shown : AnyCalendar) (s : Span) : Type 0 where
  pub from : s.from.calendar ≡ c
  pub from_shown : s.from_shown.calendar ≡ shown
  pub to : s.to.calendar ≡ c
  pub to_shown : s.to_shown.calendar ≡ shown
