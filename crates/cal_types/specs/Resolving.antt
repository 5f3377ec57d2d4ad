-- Resolving the fields of a date: the date, or the first fault.
-- Source: ECMAScript Temporal's CalendarResolveFields, NonISOResolveFields and NonISOCalendarDateToISO.
use Rattle.std.specs.Prelude.{ℕ, ℤ, min, max, Bool, true, false, ◌&&◌, ◌||◌, nat_le, nat_eq, List, Option, Some, None, Result, Ok, Err, if◌then◌else◌}
use Rattle.std.specs.Ordering.{int_eq}
use Rattle.std.specs.Option.{is_some}
use Rattle.cal_days.specs.Day.{is_field_year, is_valid_day}
use Rattle.cal_types.specs.Month.{MonthParts, plain_month, month_read}
use Rattle.cal_types.specs.Bag.{Bag}
use Rattle.cal_errors.specs.Errors.{fields_error_of_reference_year}
use Rattle.cal_types.specs.declared.options.Overflow.{Overflow}
use Rattle.cal_types.specs.declared.options.Overflow.TheVariants.{Constrain, Reject}
use Rattle.cal_types.specs.declared.options.MissingFieldsStrategy.{MissingFieldsStrategy}
use Rattle.cal_types.specs.declared.options.MissingFieldsStrategy.TheVariants as missing
use Rattle.cal_errors.specs.declared.errors.DateFromFieldsError.{DateFromFieldsError}
use Rattle.cal_errors.specs.declared.errors.DateFromFieldsError.TheVariants.{NotEnoughFields, TooManyFields, Overflow as OutOfRange, InvalidEra, InconsistentYear, MonthCodeInvalidSyntax, MonthNotInCalendar, MonthNotInYear, InconsistentMonth, InvalidOrdinalMonth, InvalidDay}
use Rattle.cal_errors.specs.declared.errors.EcmaReferenceYearError.{EcmaReferenceYearError}
use Rattle.cal_errors.specs.declared.errors.EcmaReferenceYearError.TheVariants.{UseRegularIfConstrain}
use Rattle.cal_types.specs.CalendarList.{CalendarList, Date, date, month_count, month_length, day_number, spot}
use Rattle.cal_types.specs.YearNames.{YearNames}

-- a step's answer, or its fault
abbrev pub Resolved : Type 0 → Type 0
Resolved T = Result T DateFromFieldsError

-- one step after another; the first fault is the answer
abbrev pub after : {T U : Type 0} → Resolved T → (T → Resolved U) → Resolved U
after (Ok x) next = next x
after (Err e) next = Err e

-- what is there, or a fault
abbrev pub or_fault : {T : Type 0} → DateFromFieldsError → Option T → Resolved T
or_fault e None = Err e
or_fault e (Some x) = Ok x

-- which overflow an option asks for: Reject, where it is left out
abbrev pub overflow_of : Option Overflow → Overflow
overflow_of None = Reject
overflow_of (Some o) = o

-- which strategy for missing fields an option asks for: Reject, where it is left out
abbrev pub missing_fields_of : Option MissingFieldsStrategy → MissingFieldsStrategy
missing_fields_of None = missing.Reject
missing_fields_of (Some s) = s

-- whether missing fields are supplied
abbrev pub is_ecma : MissingFieldsStrategy → Bool
is_ecma missing.Ecma = true
is_ecma missing.Reject = false

-- a given day; else the first, where it may be supplied
abbrev pub day_or_first : Option ℕ → Bool → Resolved ℕ
day_or_first (Some d) supplied = Ok d
day_or_first None supplied = if supplied then Ok 1 else Err NotEnoughFields

-- the day that is asked for: a missing one is supplied where the bag names a year
abbrev pub day_asked : MissingFieldsStrategy → Bag → Resolved ℕ
day_asked strategy bag = day_or_first bag.day (is_ecma strategy && (is_some bag.extended_year || is_some bag.era_year))

-- how a bag names its month: by itself, by its code, or by its place in the year alone
pub data MonthName : Type 0 where
  ByMonth : MonthParts → MonthName
  ByCode : List ℕ → MonthName
  ByOrdinal : ℕ → MonthName

-- a month and a month code exclude each other
abbrev pub month_named : Option MonthParts → Option (List ℕ) → Option ℕ → Resolved MonthName
month_named (Some m) (Some code) ordinal = Err TooManyFields
month_named (Some m) None ordinal = Ok (ByMonth m)
month_named None (Some code) ordinal = Ok (ByCode code)
month_named None None (Some i) = Ok (ByOrdinal i)
month_named None None None = Err NotEnoughFields

-- a year, or a year in an era, that fields may name
abbrev pub field_year : ℤ → Resolved ℤ
field_year y = if is_field_year y then Ok y else Err OutOfRange

-- an extended year that is given beside an era is the same year
abbrev pub same_year : Option ℤ → ℤ → Resolved ℤ
same_year None y = Ok y
same_year (Some given) y = if int_eq given y then Ok y else Err InconsistentYear

-- the year of an era and a year in it
abbrev pub year_of_era : YearNames → List ℕ → ℤ → Option ℤ → Resolved ℤ
year_of_era names era n given =
    after (field_year n) (λ (n : ℤ).
    after (or_fault InvalidEra (names.reads era n)) (λ (y : ℤ). same_year given y))

-- a year that is there
abbrev pub some_year : ℤ → Resolved (Option ℤ)
some_year y = Ok (Some y)

-- the year that era, era year and extended year name, if they name one
abbrev pub year_named : YearNames → Option (List ℕ) → Option ℤ → Option ℤ → Resolved (Option ℤ)
year_named names (Some era) (Some n) given = after (year_of_era names era n given) some_year
year_named names (Some era) None given = Err NotEnoughFields
year_named names None (Some n) given = Err NotEnoughFields
year_named names None None (Some y) = after (field_year y) some_year
year_named names None None None = Ok None

-- a month that the calendar knows
abbrev pub month_of_kind : CalendarList → MonthParts → Resolved MonthParts
month_of_kind c m = if c.is_of_kind m then Ok m else Err MonthNotInCalendar

-- the month that a name says, where its code is of the form; an ordinal month alone says none
abbrev pub month_said : MonthName → Resolved MonthParts
month_said (ByMonth m) = Ok m
month_said (ByCode code) = or_fault MonthCodeInvalidSyntax (month_read code)
month_said (ByOrdinal i) = Err NotEnoughFields

-- the same, where the calendar knows the month
abbrev pub month_known : CalendarList → MonthName → Resolved MonthParts
month_known c m = after (month_said m) (λ (said : MonthParts). month_of_kind c said)

-- a reference year, and the month that stands in it
pub record YearAndMonth : Type 0 where
  pub year : ℤ
  pub month : MonthName

abbrev pub year_and_month : ℤ → MonthName → YearAndMonth
year_and_month y m = record { year = y; month = m }

-- a month in its reference year, or why there is none
abbrev pub in_reference_year : MonthParts → Result ℤ EcmaReferenceYearError → Resolved YearAndMonth
in_reference_year m (Ok y) = Ok (year_and_month y (ByMonth m))
in_reference_year m (Err e) = Err (fields_error_of_reference_year e)

-- under Constrain the plain month of its number takes the place of a leap month that has no reference year
abbrev pub or_plain_month : YearNames → Overflow → MonthParts → ℕ → Result ℤ EcmaReferenceYearError
    → Resolved YearAndMonth
or_plain_month names Constrain m d (Err UseRegularIfConstrain) =
    in_reference_year (plain_month m.number) (names.reference (plain_month m.number) d)
or_plain_month names o m d r = in_reference_year m r

-- where no year is named: the reference year of the month and the day,
-- if fields are supplied and no ordinal month is given
abbrev pub without_year : CalendarList → YearNames → MissingFieldsStrategy → Overflow → MonthName → Option ℕ → ℕ
    → Resolved YearAndMonth
without_year c names strategy o m None d =
    if is_ecma strategy
    then after (month_known c m) (λ (known : MonthParts). or_plain_month names o known d (names.reference known d))
    else Err NotEnoughFields
without_year c names strategy o m (Some i) d = Err NotEnoughFields

-- the year that the bag names, or a reference year
abbrev pub in_year : CalendarList → YearNames → MissingFieldsStrategy → Overflow → MonthName → Option ℕ → ℕ → Option ℤ
    → Resolved YearAndMonth
in_year c names strategy o m ordinal d (Some y) = Ok (year_and_month y m)
in_year c names strategy o m ordinal d None = without_year c names strategy o m ordinal d

-- the place of a month that the year has
abbrev pub resolved_place : Option ℕ → Resolved ℕ
resolved_place r = or_fault MonthNotInYear r

-- an ordinal month that is given beside a month is its place
abbrev pub same_place : Option ℕ → ℕ → Resolved ℕ
same_place None i = Ok i
same_place (Some given) i = if nat_eq given i then Ok i else Err InconsistentMonth

-- a number from 1 to a last one; another is a fault, or the nearest one is taken
abbrev pub resolved_number : ℕ → DateFromFieldsError → Overflow → ℕ → Resolved ℕ
resolved_number last fault Reject i = if nat_le 1 i && nat_le i last then Ok i else Err fault
resolved_number last fault Constrain i = Ok (max 1 (min i last))

-- a place in a year, whose number of months is given
abbrev pub resolved_ordinal : ℕ → Overflow → ℕ → Resolved ℕ
resolved_ordinal count = resolved_number count (InvalidOrdinalMonth count)

-- the place of a month of the year
abbrev pub place_in_year : CalendarList → ℤ → Overflow → MonthName → Option ℕ → Resolved ℕ
place_in_year c y o (ByOrdinal i) ordinal = resolved_ordinal (month_count c y) o i
place_in_year c y o m ordinal =
    after (month_known c m) (λ (known : MonthParts).
    after (resolved_place (spot c y known o)) (λ (i : ℕ). same_place ordinal i))

-- a day of a month, whose last day is given
abbrev pub resolved_day : ℕ → Overflow → ℕ → Resolved ℕ
resolved_day last = resolved_number last (InvalidDay last)

-- a date whose day number is in the valid range
abbrev pub valid_date : CalendarList → Date → Resolved Date
valid_date c t = if is_valid_day (day_number c t) then Ok t else Err OutOfRange

-- from the place of a month on: the day, and the range of the whole
abbrev pub resolved_in_month : CalendarList → ℤ → ℕ → Overflow → ℕ → Resolved Date
resolved_in_month c y i o d = after (resolved_day (month_length c y i) o d) (λ (day : ℕ). valid_date c (date y i day))

-- from a year on: the place of its month, and the day
abbrev pub resolved_in_year : CalendarList → YearAndMonth → Overflow → Option ℕ → ℕ → Resolved Date
resolved_in_year c there o ordinal d =
    after (place_in_year c there.year o there.month ordinal) (λ (i : ℕ). resolved_in_month c there.year i o d)

-- in the order of the steps: the fields are there, the year, the month, the day, and the range of the whole
unfoldable pub resolve : CalendarList → YearNames → Bag → Overflow → MissingFieldsStrategy → Resolved Date
resolve c names bag o strategy =
    after (day_asked strategy bag) (λ (d : ℕ).
    after (month_named bag.month bag.month_code bag.ordinal_month) (λ (m : MonthName).
    after (year_named names bag.era bag.era_year bag.extended_year) (λ (y : Option ℤ).
    after (in_year c names strategy o m bag.ordinal_month d y) (λ (there : YearAndMonth).
    resolved_in_year c there o bag.ordinal_month d))))
