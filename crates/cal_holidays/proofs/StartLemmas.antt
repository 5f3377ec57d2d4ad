-- The day of the date that the fields of a start resolve to.
use Rattle.std.proofs.Common.{◌≡◌, ◌∙◌, ℕ, Option, Some, None, Result, Ok, ap, ap₂, sym, subst, ℤ, pos}
use Rattle.std.specs.Prelude.{option_map}
use Rattle.std.specs.Result.{result_ok}
use Rattle.cal_base.specs.IsoSystem.{iso_system}
use Rattle.cal_base.specs.laws.OffsetListLaws.{offset_list-lawful}
use Rattle.cal_days.specs.Day.{IsValidDay}
use Rattle.cal_errors.specs.declared.errors.DateFromFieldsError.{DateFromFieldsError}
use Rattle.cal_types.proofs.ResolvingLemmas.{resolve-date}
use Rattle.cal_types.specs.Bag.{Bag}
use Rattle.cal_types.specs.CalendarList.{Date, day_number}
use Rattle.cal_types.specs.CalendarSystem.{resolve_fields}
use Rattle.cal_types.specs.Month.{MonthParts, plain_month}
use Rattle.cal_types.specs.Resolving.{missing_fields_of, overflow_of}
use Rattle.cal_holidays.specs.RecordStarts.{iso_day, no_options}

-- a year, a month and a day as fields
abbrev fields_of : ℤ → MonthParts → ℕ → Bag
fields_of y m d = record {
  era = None;
  era_year = None;
  extended_year = Some y;
  month = Some m;
  month_code = None;
  ordinal_month = None;
  day = Some d;
}

pub made-day : (r : Result Date DateFromFieldsError) (y : ℤ) (m : MonthParts) (year month day : ℕ) → y ≡ pos year → m ≡ plain_month month →
    r ≡ resolve_fields iso_system (fields_of y m day) no_options → option_map (day_number iso_system.list) (result_ok r) ≡ iso_day year month day
made-day r y m year month day e f g =
    ap (λ (o : Result Date DateFromFieldsError). option_map (day_number iso_system.list) (result_ok o))
    (g ∙ ap₂ (λ (z : ℤ) (p : MonthParts). resolve_fields iso_system (fields_of z p day) no_options) e f)

pub made-valid : (t : Date) (n : ℤ) (bag : Bag) → n ≡ day_number iso_system.list t → Ok t ≡ resolve_fields iso_system bag no_options → IsValidDay n
made-valid t n bag e g =
    subst IsValidDay (sym e)
    (resolve-date iso_system.list (offset_list-lawful (pos 0)) iso_system.year_names bag (overflow_of no_options.overflow) (missing_fields_of no_options.missing_fields_strategy) t (sym g)).1
