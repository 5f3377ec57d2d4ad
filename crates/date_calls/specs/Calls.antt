-- What the calls on dates answer.
use Rattle.std.specs.Prelude.{◌≡◌, ℕ, ℤ, ◌&&◌, Bool, true, false, List, length, Option, Some, None, Result, Ok, Err, MatchBool}
use Rattle.cal_days.specs.Day.{is_valid_day}
use Rattle.cal_types.specs.Bag.{Bag}
use Rattle.cal_types.specs.declared.duration.DateDuration.{DateDuration}
use Rattle.cal_types.specs.declared.duration.DateDurationUnit.{DateDurationUnit}
use Rattle.cal_types.specs.declared.options.DateFromFieldsOptions.{DateFromFieldsOptions}
use Rattle.cal_types.specs.declared.options.MissingFieldsStrategy.{MissingFieldsStrategy}
use Rattle.cal_types.specs.declared.options.Overflow.{Overflow}
use Rattle.cal_errors.specs.declared.errors.DateAddError.{DateAddError}
use Rattle.cal_errors.specs.declared.errors.DateFromFieldsError.{DateFromFieldsError}
use Rattle.cal_types.specs.Adding.{add_overflow_of}
use Rattle.cal_types.specs.CalendarSystem.{CalendarSystem}
use Rattle.cal_types.specs.Difference.{largest_unit_of}
use Rattle.date_calls.specs.Dates.{IsShown}
use Rattle.date_calls.specs.Durations.{IsAdded, IsApart, duration_told}
use Rattle.date_calls.specs.Eras.{IsEraOf}
use Rattle.date_calls.specs.Fields.{IsResolved}
use Rattle.date_calls.specs.Outcomes.{fields_fault, sum_fault}
use Rattle.date_calls.specs.Rooms.{IsPut}
use Rattle.date_calls.specs.declared.dates.CalendarDate.{CalendarDate}
use Rattle.date_calls.specs.declared.durations.CalendarDuration.{CalendarDuration}
use Rattle.date_calls.specs.declared.outcomes.CalendarOutcome.{CalendarOutcome}

-- a code is told, and what was there is there still
pub record IsLeft {T : Type 0} (why : ℕ) (code : ℕ) (before now : T) : Type 0 where
  pub told : code ≡ why
  pub stands : now ≡ before

-- the same, and no number belongs to the code
pub record IsLeftWith {T : Type 0} (why : ℕ) (code max : ℕ) (before now : T) : Type 0 where
  pub told : code ≡ why
  pub no_max : max ≡ 0
  pub stands : now ≡ before

-- what the date of a day says
pub record TellsDay (s : CalendarSystem) (day : ℤ) (code : ℕ) (now : CalendarDate) : Type 0 where
  pub done : code ≡ 0
  pub shown : IsShown s day now

abbrev pub ShowsDay : CalendarSystem → ℤ → ℕ → CalendarDate → CalendarDate → Type 0
ShowsDay s day code before now = MatchBool (is_valid_day day) (TellsDay s day code now) (IsLeft 4 code before now)

-- what is told of a calendar's answer: what its date says, or why there is none
abbrev pub IsTold : {E : Type 0} → (E → CalendarOutcome) → Result CalendarDate E → ℕ → ℕ → CalendarDate → CalendarDate
    → Type 0
IsTold view (Ok parts) code max before now = (code ≡ 0) × (max ≡ 0) × (now ≡ parts)
IsTold view (Err why) code max before now = (code ≡ (view why).code) × (max ≡ (view why).max) × (now ≡ before)

-- the date that fields name
pub record NamesDate (s : CalendarSystem) (bag : Bag) (options : DateFromFieldsOptions) (code max : ℕ)
    (before now : CalendarDate) : Type 0 where
  pub answer : Result CalendarDate DateFromFieldsError
  pub resolved : IsResolved s bag options answer
  pub told : IsTold fields_fault answer code max before now

abbrev pub fields_options : Option Overflow → Option MissingFieldsStrategy → DateFromFieldsOptions
fields_options overflow missing = record { overflow = overflow; missing_fields_strategy = missing }

abbrev pub NamesWith : CalendarSystem → Bag → Option Overflow → Option (Option MissingFieldsStrategy) → ℕ → ℕ
    → CalendarDate → CalendarDate → Type 0
NamesWith s bag overflow (Some missing) code max before now =
    NamesDate s bag (fields_options overflow missing) code max before now
NamesWith s bag overflow None code max before now = IsLeftWith 3 code max before now

abbrev pub NamesIn : CalendarSystem → Bag → Option (Option Overflow) → Option (Option MissingFieldsStrategy) → ℕ → ℕ
    → CalendarDate → CalendarDate → Type 0
NamesIn s bag (Some overflow) missing code max before now = NamesWith s bag overflow missing code max before now
NamesIn s bag None missing code max before now = IsLeftWith 3 code max before now

-- the date that a duration leads to from a day
pub record AddsTo (s : CalendarSystem) (day : ℤ) (duration : DateDuration) (overflow : Overflow) (code max : ℕ)
    (before now : CalendarDate) : Type 0 where
  pub answer : Result CalendarDate DateAddError
  pub added : IsAdded s day duration overflow answer
  pub told : IsTold sum_fault answer code max before now

abbrev pub AddsIn : CalendarSystem → Option (Option Overflow) → ℤ → DateDuration → ℕ → ℕ → CalendarDate → CalendarDate
    → Type 0
AddsIn s (Some overflow) day duration code max before now =
    MatchBool (is_valid_day day) (AddsTo s day duration (add_overflow_of overflow) code max before now)
    (IsLeftWith 4 code max before now)
AddsIn s None day duration code max before now = IsLeftWith 3 code max before now

-- the difference of two days, which leads back
pub record Differs (s : CalendarSystem) (first second : ℤ) (unit : DateDurationUnit) (code : ℕ)
    (now : CalendarDuration) : Type 0 where
  pub duration : DateDuration
  pub apart : IsApart s first second unit duration
  pub done : code ≡ 0
  pub told : now ≡ duration_told duration

abbrev pub DiffersIn : CalendarSystem → Option (Option DateDurationUnit) → ℤ → ℤ → ℕ → CalendarDuration
    → CalendarDuration → Type 0
DiffersIn s (Some unit) first second code before now =
    MatchBool (is_valid_day first && is_valid_day second) (Differs s first second (largest_unit_of unit) code now)
    (IsLeft 4 code before now)
DiffersIn s None first second code before now = IsLeft 3 code before now

-- the code says whether a text fits into its room
abbrev pub put_code : Bool → ℕ
put_code true = 0
put_code false = 8

-- the code of the era of a day's year stands first in the room, or the room is too short and as it was; the answer is
-- 0 or 8 by that
pub record TellsEra (s : CalendarSystem) (day : ℤ) (code : ℕ) (before now : List ℕ) (written : ℕ) : Type 0 where
  pub era : List ℕ
  pub is : IsEraOf s day era
  pub count : written ≡ length era
  pub fits : Bool
  pub put : IsPut fits era before now
  pub told : code ≡ put_code fits

abbrev pub ShowsEra : CalendarSystem → ℤ → ℕ → List ℕ → List ℕ → ℕ → Type 0
ShowsEra s day code before now written =
    MatchBool (is_valid_day day) (TellsEra s day code before now written) (IsLeftWith 4 code written before now)
