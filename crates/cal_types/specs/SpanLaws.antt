-- Laws of what two bags ask for.
use Rattle.std.specs.Prelude.{◌≡◌, ◌≤◌, unsigned_abs, ◌+ℤ◌, ◌-ℤ◌, Result}
use Rattle.cal_days.specs.Day.{IsFieldYear}
use Rattle.cal_types.specs.Bag.{Bag}
use Rattle.cal_types.specs.declared.options.DateFromFieldsOptions.{DateFromFieldsOptions}
use Rattle.cal_types.specs.declared.duration.DateDurationUnit.{DateDurationUnit}
use Rattle.cal_types.specs.CalendarList.{CalendarList, Date, IsLawful, IsValidDate, month_number}
use Rattle.cal_types.specs.CalendarSystem.{CalendarSystem}
use Rattle.cal_types.specs.Spans.{SpanDates, IsSpan}
use Rattle.cal_types.specs.declared.span_error.SpanError.{SpanError}

-- valid dates are near enough for the limits of adding: their years may be named by fields, also as adding counts them,
-- and they lie at most 27040000 months apart
pub record IsWithinLimits (c : CalendarSystem) : Type 0 where
  pub ranged : (t : Date) → IsValidDate c.list t → IsFieldYear t.year × IsFieldYear (t.year +ℤ c.year_shift)
  pub apart : (t u : Date) → IsValidDate c.list t → IsValidDate c.list u
      → unsigned_abs (month_number c.list u.year u.month -ℤ month_number c.list t.year t.month) ≤ 27040000

-- in lawful calendars two bags have an answer: two dates, the same days and their difference, which leads back,
-- or the first fault
abbrev pub TwoBagsHaveAnAnswer : Type 0
TwoBagsHaveAnAnswer = (c : CalendarSystem) (shown : CalendarList) → IsLawful c.list → IsLawful shown → IsWithinLimits c
    → (first second : Bag) (options : DateFromFieldsOptions) (unit : DateDurationUnit)
    → (r : Result SpanDates SpanError) × IsSpan c shown first second options unit r

-- two bags have no two answers
abbrev pub AnswersAreUnique : Type 0
AnswersAreUnique =
    (c : CalendarSystem) (shown : CalendarList) (first second : Bag) (options : DateFromFieldsOptions)
    (unit : DateDurationUnit) (r s : Result SpanDates SpanError) → IsSpan c shown first second options unit r
    → IsSpan c shown first second options unit s → r ≡ s
