-- Durations as texts: an optional minus, `P`, and numbers that are each followed by their unit's letter.
-- Source: the date part of the durations of ISO 8601-2, where a sign may stand first.
use Rattle.std.specs.Prelude.{ℕ, Bool, true, false, nat_eq, nat_lt, List, [], ◌∷◌, ◌++◌, Option, Some, None, if◌then◌else◌, Result, Ok, Err}
use Rattle.std.specs.Option.{is_some, option_map, option_or, unwrap_or}
use Rattle.std.specs.List.{find}
use Rattle.std.specs.Char.{is_ascii_digit}
use Rattle.std.specs.Str.Parse.{digits_value}
use Rattle.cal_types.specs.declared.duration.DateDuration.{DateDuration}
use Rattle.cal_types.specs.declared.duration.DateDurationUnit.{DateDurationUnit}
use Rattle.cal_types.specs.declared.duration.DateDurationUnit.TheVariants.{Years, Months, Weeks, Days}
use Rattle.cal_types.specs.declared.duration_text.Amounts.{Amounts}
use Rattle.cal_errors.specs.declared.errors.DateDurationParseError.{DateDurationParseError}
use Rattle.cal_errors.specs.declared.errors.DateDurationParseError.TheVariants.{InvalidStructure, TimeNotSupported, MissingValue, DuplicateUnit, NumberOverflow, PlusNotAllowed}

-- a part of a duration: digits, and the byte that ends them unless the text does
pub record DurationPart : Type 0 where
  pub digits : List ℕ
  pub end : Option ℕ

-- parts behind one more digit
abbrev pub digit_before : ℕ → List DurationPart → List DurationPart
digit_before digit [] = record { digits = digit ∷ []; end = None } ∷ []
digit_before digit (part ∷ parts) = record { digits = digit ∷ part.digits; end = part.end } ∷ parts

-- the parts of a text, which is cut behind each byte that isn't a digit
abbrev pub parts_of : List ℕ → List DurationPart
parts_of [] = []
parts_of (byte ∷ text) =
    if is_ascii_digit byte
    then digit_before byte (parts_of text)
    else record { digits = []; end = Some byte } ∷ parts_of text

-- the letter of a unit (`Y`, `M`, `W`, `D`)
abbrev pub unit_letter : DateDurationUnit → ℕ
unit_letter Years = 89
unit_letter Months = 77
unit_letter Weeks = 87
unit_letter Days = 68

-- the unit with a letter
abbrev pub unit_lettered : ℕ → Option DateDurationUnit
unit_lettered byte = find (λ unit. nat_eq byte (unit_letter unit)) (Years ∷ Months ∷ Weeks ∷ Days ∷ [])

-- whether a byte ends a part
abbrev pub is_end : ℕ → Option ℕ → Bool
is_end letter None = false
is_end letter (Some byte) = nat_eq byte letter

-- the number of a unit: that of the first part with the unit's letter
abbrev pub number_of : DateDurationUnit → List DurationPart → Option ℕ
number_of unit parts =
    option_map (λ part. digits_value 10 part.digits) (find (λ part. is_end (unit_letter unit) part.end) parts)

-- the number of each unit
abbrev pub amounts_of : List DurationPart → Amounts
amounts_of parts = record {
  years = number_of Years parts;
  months = number_of Months parts;
  weeks = number_of Weeks parts;
  days = number_of Days parts;
}

-- the number of one unit among those of all
abbrev pub amount : DateDurationUnit → Amounts → Option ℕ
amount Years a = a.years
amount Months a = a.months
amount Weeks a = a.weeks
amount Days a = a.days

-- what is wrong with a unit and its number behind earlier ones: there is no unit, it came before,
-- or the number is above the greatest u32
abbrev pub amount_fault : Amounts → ℕ → Option DateDurationUnit → Option DateDurationParseError
amount_fault earlier number None = Some InvalidStructure
amount_fault earlier number (Some unit) =
    if is_some (amount unit earlier) then Some DuplicateUnit
    else if nat_lt 4294967295 number then Some NumberOverflow
    else None

-- the unit of a part, where its end is a unit's letter
abbrev pub unit_at : Option ℕ → Option DateDurationUnit
unit_at None = None
unit_at (Some byte) = unit_lettered byte

-- what is wrong with a part without digits, by the byte that ends it: a time begins (`T`), or a number is missing
abbrev pub digits_missed : Option ℕ → DateDurationParseError
digits_missed end = if is_end 84 end then TimeNotSupported else MissingValue

-- the first thing that is wrong with digits and their end behind earlier ones: there are none, or their number is
-- above the greatest u64, whatever ends it
abbrev pub digits_fault : Amounts → List ℕ → Option ℕ → Option DateDurationParseError
digits_fault earlier [] end = Some (digits_missed end)
digits_fault earlier (digit ∷ digits) end =
    if nat_lt 18446744073709551615 (digits_value 10 (digit ∷ digits)) then Some NumberOverflow
    else amount_fault earlier (digits_value 10 (digit ∷ digits)) (unit_at end)

-- the numbers with one more, where it has a unit
abbrev pub amount_put : Amounts → ℕ → Option DateDurationUnit → Amounts
amount_put a number None = a
amount_put a number (Some Years) = record { years = Some number; months = a.months; weeks = a.weeks; days = a.days }
amount_put a number (Some Months) = record { years = a.years; months = Some number; weeks = a.weeks; days = a.days }
amount_put a number (Some Weeks) = record { years = a.years; months = a.months; weeks = Some number; days = a.days }
amount_put a number (Some Days) = record { years = a.years; months = a.months; weeks = a.weeks; days = Some number }

-- what is wrong with the first part that is wrong, behind earlier parts
abbrev pub first_fault : List DurationPart → List DurationPart → Option DateDurationParseError
first_fault earlier [] = None
first_fault earlier (part ∷ parts) =
    option_or (digits_fault (amounts_of earlier) part.digits part.end) (first_fault (earlier ++ part ∷ []) parts)

-- a value unless something is wrong
abbrev pub unless_fault : {A : Type 0} → Option DateDurationParseError → A → Result A DateDurationParseError
unless_fault None value = Ok value
unless_fault (Some fault) value = Err fault

-- a duration of so much of each unit; a unit that isn't there counts nothing
abbrev pub duration_with : Bool → Amounts → DateDuration
duration_with is_negative a = record {
  is_negative = is_negative;
  years = unwrap_or a.years 0;
  months = unwrap_or a.months 0;
  weeks = unwrap_or a.weeks 0;
  days = unwrap_or a.days 0;
}

-- the duration that parts name, or the first fault among them
abbrev pub parts_read : Bool → List DurationPart → Result DateDuration DateDurationParseError
parts_read is_negative parts = unless_fault (first_fault [] parts) (duration_with is_negative (amounts_of parts))

-- the duration that a text names behind its sign: `P` (80), and one part or more
abbrev pub read_behind_sign : Bool → List ℕ → Result DateDuration DateDurationParseError
read_behind_sign is_negative [] = Err InvalidStructure
read_behind_sign is_negative (_ ∷ []) = Err InvalidStructure
read_behind_sign is_negative (letter ∷ byte ∷ text) =
    if nat_eq letter 80 then parts_read is_negative (parts_of (byte ∷ text)) else Err InvalidStructure

-- the duration that a text names: a plus (43) is refused, and a minus (45) turns the duration
abbrev pub duration_read : List ℕ → Result DateDuration DateDurationParseError
duration_read [] = Err InvalidStructure
duration_read (byte ∷ text) =
    if nat_eq byte 43 then Err PlusNotAllowed
    else if nat_eq byte 45 then read_behind_sign true text
    else read_behind_sign false (byte ∷ text)
