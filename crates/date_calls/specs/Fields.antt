-- The fields that are given, and the date that they name.
use Rattle.std.specs.Prelude.{◌≡◌, ℕ, nat_eq, List, [], ◌∷◌, Option, Some, None, Result, Ok, Err, if◌then◌else◌}
use Rattle.cal_types.specs.Bag.{Bag}
use Rattle.cal_types.specs.Month.{MonthParts, leap_month, plain_month}
use Rattle.cal_types.specs.declared.options.DateFromFieldsOptions.{DateFromFieldsOptions}
use Rattle.cal_errors.specs.declared.errors.DateFromFieldsError.{DateFromFieldsError}
use Rattle.cal_types.specs.CalendarList.{Date}
use Rattle.cal_types.specs.CalendarSystem.{CalendarSystem, resolve_fields}
use Rattle.date_calls.specs.Dates.{AreParts}
use Rattle.date_calls.specs.declared.dates.CalendarDate.{CalendarDate}
use Rattle.date_calls.specs.declared.fields.CalendarFields.{CalendarFields}

-- a value that is given where a number isn't 0
abbrev pub given_if : {T : Type 0} → ℕ → T → Option T
given_if has x = if nat_eq has 0 then None else Some x

-- the month of a number, which is a leap month where the second number isn't 0
abbrev pub month_of : ℕ → ℕ → MonthParts
month_of number leap = if nat_eq leap 0 then plain_month number else leap_month number

-- a text that is given where it has a byte
abbrev pub text_given : List ℕ → Option (List ℕ)
text_given [] = None
text_given (b ∷ rest) = Some (b ∷ rest)

-- the fields that are given
abbrev pub bag_given : CalendarFields → List ℕ → List ℕ → Bag
bag_given f era month_code = record {
  era = text_given era;
  era_year = given_if f.has_era_year f.era_year;
  extended_year = given_if f.has_extended_year f.extended_year;
  month = given_if f.has_month (month_of f.month_number f.month_is_leap);
  month_code = text_given month_code;
  ordinal_month = given_if f.has_ordinal_month f.ordinal_month;
  day = given_if f.has_day f.day;
}

-- what a date says that was made of fields, or why they name none
abbrev pub AreDateParts : {E : Type 0} → CalendarSystem → Result Date E → Result CalendarDate E → Type 0
AreDateParts s (Ok t) (Ok parts) = AreParts s t parts
AreDateParts s (Ok t) (Err e) = ⊥
AreDateParts s (Err e) (Ok parts) = ⊥
AreDateParts s (Err e) (Err f) = f ≡ e

-- the date that fields name, or their first fault
abbrev pub IsResolved : CalendarSystem → Bag → DateFromFieldsOptions → Result CalendarDate DateFromFieldsError → Type 0
IsResolved s bag options answer = AreDateParts s (resolve_fields s bag options) answer
