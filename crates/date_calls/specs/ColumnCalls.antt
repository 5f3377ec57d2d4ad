-- What the calls on columns answer: at every place what the call on one date answers.
use Rattle.std.specs.Prelude.{ℕ, ℤ, List, length, Option, Some, None}
use Rattle.std.specs.List.{HoldsAt}
use Rattle.cal_types.specs.CalendarSystem.{CalendarSystem}
use Rattle.cal_types.specs.declared.duration.DateDuration.{DateDuration}
use Rattle.cal_types.specs.declared.duration.DateDurationUnit.{DateDurationUnit}
use Rattle.cal_types.specs.declared.options.DateFromFieldsOptions.{DateFromFieldsOptions}
use Rattle.cal_types.specs.declared.options.MissingFieldsStrategy.{MissingFieldsStrategy}
use Rattle.cal_types.specs.declared.options.Overflow.{Overflow}
use Rattle.date_calls.specs.Calls.{AddsIn, DiffersIn, NamesDate, ShowsDay, fields_options}
use Rattle.date_calls.specs.Columns.{AreLeft, Fills, FillsBoth}
use Rattle.date_calls.specs.Durations.{duration_given}
use Rattle.date_calls.specs.Fields.{bag_given}
use Rattle.date_calls.specs.declared.dates.CalendarDate.{CalendarDate}
use Rattle.date_calls.specs.declared.durations.CalendarDuration.{CalendarDuration}
use Rattle.date_calls.specs.declared.fields.CalendarFields.{CalendarFields}
use Rattle.date_calls.specs.declared.outcomes.CalendarOutcome.{CalendarOutcome}

-- the date of the day at a place
abbrev pub ShowsDayAt : CalendarSystem → List ℤ → ℕ → ℕ → CalendarDate → CalendarDate → Type 0
ShowsDayAt s days k code before now = HoldsAt (λ day. ShowsDay s day code before now) days k

-- the difference of the days at a place
abbrev pub DiffersAt : CalendarSystem → Option DateDurationUnit → List ℤ → List ℤ → ℕ → ℕ → CalendarDuration
    → CalendarDuration → Type 0
DiffersAt s unit first second k code before now =
    HoldsAt (λ from. HoldsAt (λ to. DiffersIn s (Some unit) from to code before now) second k) first k

-- the differences of two columns, if there is such a unit
abbrev pub DifferEach : CalendarSystem → Option (Option DateDurationUnit) → List ℤ → List ℤ → ℕ → List CalendarDuration
    → List CalendarDuration → List ℕ → List ℕ → Type 0
DifferEach s (Some unit) first second code before now codes_before codes =
    FillsBoth (DiffersAt s unit first second) (length first) (length second) code before now codes_before codes
DifferEach s None first second code before now codes_before codes = AreLeft 3 code before now codes_before codes

-- the sum of the day at a place and a duration
abbrev pub AddsAt : CalendarSystem → Option Overflow → List ℤ → DateDuration → ℕ → CalendarOutcome → CalendarDate
    → CalendarDate → Type 0
AddsAt s overflow days duration k c before now =
    HoldsAt (λ day. AddsIn s (Some overflow) day duration c.code c.max before now) days k

-- the sum of the day and the duration at a place
abbrev pub AddsEachAt : CalendarSystem → Option Overflow → List ℤ → List CalendarDuration → ℕ → CalendarOutcome
    → CalendarDate → CalendarDate → Type 0
AddsEachAt s overflow days durations k c before now =
    HoldsAt (λ d. AddsAt s overflow days (duration_given d) k c before now) durations k

-- the sums of a column of days and one duration, if there is such an option
abbrev pub AddToEach : CalendarSystem → Option (Option Overflow) → List ℤ → DateDuration → ℕ → List CalendarDate
    → List CalendarDate → List CalendarOutcome → List CalendarOutcome → Type 0
AddToEach s (Some overflow) days duration code before now outcomes_before outcomes =
    Fills (AddsAt s overflow days duration) (length days) code before now outcomes_before outcomes
AddToEach s None days duration code before now outcomes_before outcomes =
    AreLeft 3 code before now outcomes_before outcomes

-- the same with a duration for each day
abbrev pub AddEach : CalendarSystem → Option (Option Overflow) → List ℤ → List CalendarDuration → ℕ → List CalendarDate
    → List CalendarDate → List CalendarOutcome → List CalendarOutcome → Type 0
AddEach s (Some overflow) days durations code before now outcomes_before outcomes =
    FillsBoth (AddsEachAt s overflow days durations) (length days) (length durations) code before now outcomes_before
    outcomes
AddEach s None days durations code before now outcomes_before outcomes =
    AreLeft 3 code before now outcomes_before outcomes

-- the date that the fields at a place name
abbrev pub NamesAt : CalendarSystem → List CalendarFields → List ℕ → List ℕ → DateFromFieldsOptions → ℕ
    → CalendarOutcome → CalendarDate → CalendarDate → Type 0
NamesAt s fields era month_code options k c before now =
    HoldsAt (λ f. NamesDate s (bag_given f era month_code) options c.code c.max before now) fields k

-- the dates that fields name, if there are such options
abbrev pub NameWith : CalendarSystem → List CalendarFields → List ℕ → List ℕ → Option Overflow
    → Option (Option MissingFieldsStrategy) → ℕ → List CalendarDate → List CalendarDate → List CalendarOutcome
    → List CalendarOutcome → Type 0
NameWith s fields era month_code overflow (Some missing) code before now outcomes_before outcomes =
    Fills (NamesAt s fields era month_code (fields_options overflow missing)) (length fields) code before now
    outcomes_before outcomes
NameWith s fields era month_code overflow None code before now outcomes_before outcomes =
    AreLeft 3 code before now outcomes_before outcomes

abbrev pub NameEach : CalendarSystem → List CalendarFields → List ℕ → List ℕ → Option (Option Overflow)
    → Option (Option MissingFieldsStrategy) → ℕ → List CalendarDate → List CalendarDate → List CalendarOutcome
    → List CalendarOutcome → Type 0
NameEach s fields era month_code (Some overflow) missing code before now outcomes_before outcomes =
    NameWith s fields era month_code overflow missing code before now outcomes_before outcomes
NameEach s fields era month_code None missing code before now outcomes_before outcomes =
    AreLeft 3 code before now outcomes_before outcomes
