-- What `explain holidays` writes for the records of a book.
use Rattle.std.specs.Prelude.{ℕ, ◌+◌, ◌==◌, ◌&&◌, ◌||◌, Bool, false, true, nat_le, List, [], ◌∷◌, ◌++◌, length, codes, Option, Some, None, if◌then◌else◌}
use Rattle.std.specs.Fmt.{decimal}
use Rattle.std.specs.List.{list_all}
use Rattle.cal_holidays.specs.Books.{book_records}
use Rattle.cal_tables.specs.Kinds.{TableContents}
use Rattle.record_faults.specs.RecordFaults.{field_text, record_fault}
use Rattle.record_faults.specs.declared.expected.FieldExpected.{FieldExpected}
use Rattle.record_faults.specs.declared.expected.FieldExpected.TheVariants.{Fields, Kind, Name, Calendar, EasterCalendar, Month, Nothing, Day, Offset, Leaping, Nth, Weekday, SpanWeekday, Recurrence, Start, Year, Every, NoEvery, Moves}
use Rattle.record_faults.specs.declared.faults.RecordFault.{RecordFault}
use Rattle.line_faults.specs.declared.expected.Expected.TheVariants as place
use Rattle.calspan_run.specs.Converted.{Answer}
use Rattle.calspan_run.specs.Explained.{ending_of}

-- what may stand in a field, at the end of a line
abbrev pub field_ending : FieldExpected → List ℕ
field_ending Fields = codes ": six to ten fields" ++ 10 ∷ []
field_ending Kind = codes ": fixed, easter, weekday, span or rule" ++ 10 ∷ []
field_ending Name = codes ": a name, 1 to 64 printable ASCII characters" ++ 10 ∷ []
field_ending Calendar = ending_of place.Calendar
field_ending EasterCalendar = codes ": gregorian or julian" ++ 10 ∷ []
field_ending Month = codes ": the code of a month of the calendar, such as M01" ++ 10 ∷ []
field_ending Nothing = codes ": nothing" ++ 10 ∷ []
field_ending Day = codes ": a day, 1 to 31" ++ 10 ∷ []
field_ending Offset = codes ": days after Easter, -400 to 400" ++ 10 ∷ []
field_ending Leaping = codes ": exact or constrain" ++ 10 ∷ []
field_ending Nth = codes ": 1 to 5, or -1 for the last" ++ 10 ∷ []
field_ending Weekday = codes ": monday to sunday" ++ 10 ∷ []
field_ending SpanWeekday = codes ": monday to sunday, or with a - before it" ++ 10 ∷ []
field_ending Recurrence = codes ": a recurrence rule for the calendar" ++ 10 ∷ []
field_ending Start = codes ": a date, YYYY-MM-DD" ++ 10 ∷ []
field_ending Year = codes ": nothing, or a year, an optional - and 1 to 6 digits" ++ 10 ∷ []
field_ending Every = codes ": nothing, or years, 1 to 400" ++ 10 ∷ []
field_ending NoEvery = codes ": nothing, since field 7 is empty" ++ 10 ∷ []
field_ending Moves = codes ": nothing, or moves such as saturday-1 sunday+1, each weekday once" ++ 10 ∷ []

-- whether a text is shown: it isn't empty, and all of it is printable ASCII
abbrev pub is_shown : List ℕ → Bool
is_shown text = nat_le 1 (length text) && list_all (λ b. nat_le 32 b && nat_le b 126) text

-- the text of a field, if it is shown
abbrev pub standing_field : List ℕ → List ℕ
standing_field text = if is_shown text then 32 ∷ text else []

-- the numbers of a record and of a field
abbrev pub field_place : ℕ → ℕ → List ℕ
field_place number field = (codes "record " ++ decimal number) ++ (codes " field " ++ decimal field)

-- the line about a fault
abbrev pub field_line : ℕ → List (List ℕ) → RecordFault → List ℕ
field_line number fields fault =
    (field_place number fault.field ++ standing_field (field_text fields fault.field)) ++ field_ending fault.expected

-- the line about a record, if it is invalid
abbrev pub fault_line : ℕ → List (List ℕ) → Option RecordFault → Answer
fault_line number fields None = ([], false)
fault_line number fields (Some fault) = (field_line number fields fault, true)

abbrev pub record_line : ℕ → List (List ℕ) → Answer
record_line number fields = fault_line number fields (record_fault fields)

-- the lines about some records, the first of which has this number
abbrev pub record_lines : ℕ → List (List (List ℕ)) → List ℕ
record_lines number [] = []
record_lines number (row ∷ rows) = (record_line number row).0 ++ record_lines (number + 1) rows

-- whether one of them is invalid
abbrev pub any_invalid : ℕ → List (List (List ℕ)) → Bool
any_invalid number [] = false
any_invalid number (row ∷ rows) = (record_line number row).1 || any_invalid (number + 1) rows

-- the lines about the records of a book, and whether one is invalid
abbrev pub records_explained : List ℕ → Answer
records_explained book = (record_lines 1 (book_records book), any_invalid 1 (book_records book))

-- the same whatever the tables are
abbrev pub book_explained : TableContents → List ℕ → Answer
book_explained tables book = records_explained book
