-- The first invalid field of a record, and what may stand there.
use Rattle.std.specs.Prelude.{ℕ, ◌-◌, ◌==◌, ◌||◌, List, [], ◌∷◌, get_or, length, codes, Option, if◌then◌else◌}
use Rattle.std.specs.Option.{option_map, unwrap_or}
use Rattle.std.specs.Result.{result_err}
use Rattle.cal_types.specs.YearNames.{is_code}
use Rattle.csv.specs.Records.{field_at}
use Rattle.cal_holidays.specs.Records.{record_read}
use Rattle.record_faults.specs.declared.expected.FieldExpected.{FieldExpected}
use Rattle.record_faults.specs.declared.expected.FieldExpected.TheVariants.{Fields, Kind, Name, Calendar, EasterCalendar, Month, Nothing, Day, Offset, Leaping, Nth, Weekday, SpanWeekday, Recurrence, Start, Year, Every, NoEvery, Moves}
use Rattle.record_faults.specs.declared.faults.RecordFault.{RecordFault}

-- what may stand in the fields 3 to 6 of a record with this kind of rule
abbrev pub calendar_field : List ℕ → FieldExpected
calendar_field kind = if is_code kind (codes "easter") then EasterCalendar else Calendar

abbrev pub month_field : List ℕ → FieldExpected
month_field kind = if is_code kind (codes "easter") || is_code kind (codes "rule") then Nothing else Month

abbrev pub value_field : List ℕ → FieldExpected
value_field kind =
    if is_code kind (codes "easter") then Offset
    else (if is_code kind (codes "weekday") then Nth
    else (if is_code kind (codes "rule") then Recurrence else Day))

abbrev pub last_field : List ℕ → FieldExpected
last_field kind =
    if is_code kind (codes "easter") then Nothing
    else (if is_code kind (codes "weekday") then Weekday
    else (if is_code kind (codes "span") then SpanWeekday
    else (if is_code kind (codes "rule") then Start else Leaping)))

-- what may stand in the field 9 of a record with this field 7
abbrev pub every_field : List ℕ → FieldExpected
every_field since = if length since == 0 then NoEvery else Every

-- what may stand in each field of a record with this kind of rule and this field 7; 0 stands for the number of fields
abbrev pub expected_fields : List ℕ → List ℕ → List FieldExpected
expected_fields kind since =
    Fields ∷ Kind ∷ Name ∷ calendar_field kind ∷ month_field kind ∷ value_field kind ∷ last_field kind
    ∷ Year ∷ Year ∷ every_field since ∷ Moves ∷ []

-- the field at a place, counted from 0; it is empty if the record has fewer fields
abbrev pub text_at : List (List ℕ) → ℕ → List ℕ
text_at fields place = unwrap_or (field_at fields place) []

-- the field of a number, counted from 1; none has the number 0
abbrev pub field_text : List (List ℕ) → ℕ → List ℕ
field_text fields number = if number == 0 then [] else text_at fields (number - 1)

-- what may stand in a field of a record
abbrev pub expected_at : List (List ℕ) → ℕ → FieldExpected
expected_at fields number = get_or (expected_fields (text_at fields 0) (text_at fields 6)) number Moves

-- the fault of a record in a field
abbrev pub fault_at : List (List ℕ) → ℕ → RecordFault
fault_at fields number = record { field = number; expected = expected_at fields number }

-- the fault of a record in its first invalid field
abbrev pub record_fault : List (List ℕ) → Option RecordFault
record_fault fields = option_map (fault_at fields) (result_err (record_read fields))
