-- Two bags of fields: their dates, the same days in a second calendar, and their difference; or the first fault.
use Rattle.std.specs.Prelude.{◌≡◌, Result, Ok, Err}
use Rattle.cal_types.specs.Bag.{Bag}
use Rattle.cal_types.specs.declared.options.DateFromFieldsOptions.{DateFromFieldsOptions}
use Rattle.cal_types.specs.declared.duration.DateDuration.{DateDuration}
use Rattle.cal_types.specs.declared.duration.DateDurationUnit.{DateDurationUnit}
use Rattle.cal_errors.specs.declared.errors.DateFromFieldsError.{DateFromFieldsError}
use Rattle.cal_types.specs.CalendarList.{CalendarList, Date, IsOn, day_number}
use Rattle.cal_types.specs.CalendarSystem.{CalendarSystem, resolve_fields}
use Rattle.cal_types.specs.Until.{IsUntil}
use Rattle.cal_types.specs.declared.span_error.BagSide.{BagSide}
use Rattle.cal_types.specs.declared.span_error.BagSide.TheVariants.{From, To}
use Rattle.cal_types.specs.declared.span_error.SpanError.{SpanError}

-- what two bags ask for
pub record SpanDates : Type 0 where
  pub from : Date
  pub from_shown : Date
  pub to : Date
  pub to_shown : Date
  pub duration : DateDuration

-- each bag names its date; the shown dates have the same day numbers in the second list;
-- the duration is the difference, and leads back: added to the first date under Constrain, it gives the second
pub record AnswersBags (c : CalendarSystem) (shown : CalendarList) (first second : Bag)
    (options : DateFromFieldsOptions) (unit : DateDurationUnit) (s : SpanDates) : Type 0 where
  pub from : resolve_fields c first options ≡ Ok s.from
  pub to : resolve_fields c second options ≡ Ok s.to
  pub from_shown : IsOn shown (day_number c.list s.from) s.from_shown
  pub to_shown : IsOn shown (day_number c.list s.to) s.to_shown
  pub until : IsUntil c.list c.year_shift s.from s.to unit s.duration

-- the second bag is at fault only where the first names a date
abbrev pub RefusesBag : CalendarSystem → Bag → Bag → DateFromFieldsOptions → BagSide → DateFromFieldsError → Type 0
RefusesBag c from to options From cause = resolve_fields c from options ≡ Err cause
RefusesBag c from to options To cause =
    (t : Date) × (resolve_fields c from options ≡ Ok t) × (resolve_fields c to options ≡ Err cause)

abbrev pub IsSpan : CalendarSystem → CalendarList → Bag → Bag → DateFromFieldsOptions → DateDurationUnit
    → Result SpanDates SpanError → Type 0
IsSpan c shown from to options unit (Ok s) = AnswersBags c shown from to options unit s
IsSpan c shown from to options unit (Err e) = RefusesBag c from to options e.side e.cause
