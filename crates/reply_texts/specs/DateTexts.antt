-- The texts of dates, durations and causes.
-- Source: era codes of CLDR (UTS 35), month codes of ECMAScript Temporal, durations of ISO 8601.
use Rattle.std.specs.Prelude.{ℕ, ◌==◌, Bool, true, false, List, [], ◌∷◌, ◌++◌, Result, Ok, Err, codes, if◌then◌else◌}
use Rattle.std.specs.Fmt.{decimal, signed_decimal}
use Rattle.cal_types.specs.Month.{code_text}
use Rattle.cal_types.specs.declared.year.YearInfo.{YearInfo}
use Rattle.cal_types.specs.declared.year.YearInfo.TheVariants.{Era, Cyclic}
use Rattle.cal_types.specs.declared.duration.DateDuration.{DateDuration}
use Rattle.cal_errors.specs.declared.errors.DateFromFieldsError.{DateFromFieldsError}
use Rattle.cal_errors.specs.declared.errors.DateFromFieldsError.TheVariants as cause
use Rattle.cal_types.specs.CalendarList.{Date, month_at, day_number}
use Rattle.cal_types.specs.CalendarSystem.{CalendarSystem}
use Rattle.cal_types.specs.Spans.{SpanDates}
use Rattle.cal_types.specs.declared.span_error.BagSide.{BagSide}
use Rattle.cal_types.specs.declared.span_error.BagSide.TheVariants.{From, To}
use Rattle.cal_types.specs.declared.span_error.SpanError.{SpanError}
use Rattle.reply_texts.specs.Texts.{two_digits}

-- a year of an era, as `ce.2020`, or of a cycle, as `cycle.37`
abbrev pub year_text : YearInfo → List ℕ
year_text (Era y) = y.era ++ 46 ∷ signed_decimal y.year
year_text (Cyclic y) = codes "cycle." ++ decimal y.year

-- a date: extended year, printed year, month code, day and day number, as `2020/ce.2020/M02/29@737484`
abbrev pub date_text : CalendarSystem → Date → List ℕ
date_text s t =
    signed_decimal t.year ++ 47 ∷ year_text (s.year_info t) ++ 47 ∷ code_text (month_at s.list t.year t.month)
    ++ 47 ∷ two_digits t.day ++ 64 ∷ signed_decimal (day_number s.list t)

-- a part of a duration, where it isn't 0
abbrev pub part_text : ℕ → ℕ → List ℕ
part_text n letter = if n == 0 then [] else decimal n ++ letter ∷ []

-- the parts of a duration: years, months, weeks and days
abbrev pub parts_text : DateDuration → List ℕ
parts_text d = part_text d.years 89 ++ part_text d.months 77 ++ part_text d.weeks 87 ++ part_text d.days 68

-- a duration, as `-P1Y2M`; that of zero is `P0D`
abbrev pub nonzero_text : Bool → List ℕ → List ℕ
nonzero_text negative [] = codes "P0D"
nonzero_text negative (first ∷ more) = (if negative then 45 ∷ [] else []) ++ 80 ∷ first ∷ more

abbrev pub duration_text : DateDuration → List ℕ
duration_text d = nonzero_text d.is_negative (parts_text d)

-- why a bag names no date
abbrev pub cause_text : DateFromFieldsError → List ℕ
cause_text cause.NotEnoughFields = codes "NotEnoughFields"
cause_text cause.TooManyFields = codes "TooManyFields"
cause_text cause.Overflow = codes "Overflow"
cause_text cause.InvalidEra = codes "InvalidEra"
cause_text cause.InconsistentYear = codes "InconsistentYear"
cause_text cause.MonthCodeInvalidSyntax = codes "MonthCodeInvalidSyntax"
cause_text cause.MonthNotInCalendar = codes "MonthNotInCalendar"
cause_text cause.MonthNotInYear = codes "MonthNotInYear"
cause_text cause.InconsistentMonth = codes "InconsistentMonth"
cause_text (cause.InvalidOrdinalMonth max) = codes "InvalidOrdinalMonth " ++ decimal max
cause_text (cause.InvalidDay max) = codes "InvalidDay " ++ decimal max

abbrev pub side_text : BagSide → List ℕ
side_text From = codes "from"
side_text To = codes "to"

-- a date, and the same day in the second calendar
abbrev pub day_text : CalendarSystem → CalendarSystem → Date → Date → List ℕ
day_text c shown t u = date_text c t ++ 32 ∷ date_text shown u

-- both days, and the difference
abbrev pub span_text : CalendarSystem → CalendarSystem → SpanDates → List ℕ
span_text c shown s =
    codes "ok " ++ day_text c shown s.from s.from_shown ++ 32 ∷ day_text c shown s.to s.to_shown
    ++ 32 ∷ duration_text s.duration ++ 10 ∷ []

-- which bag is at fault, and why
abbrev pub error_text : SpanError → List ℕ
error_text e = codes "err " ++ side_text e.side ++ 32 ∷ cause_text e.cause ++ 10 ∷ []

-- both dates with the same days in the second calendar, and the difference; or the first fault
abbrev pub reply_text : CalendarSystem → CalendarSystem → Result SpanDates SpanError → List ℕ
reply_text c shown (Ok s) = span_text c shown s
reply_text c shown (Err e) = error_text e

abbrev pub is_refusal : Result SpanDates SpanError → Bool
is_refusal (Ok s) = false
is_refusal (Err e) = true
