-- The texts that may stand in the first invalid field of a record.
use Rattle.std.specs.Prelude.{◌≡◌, ℕ, ◌-◌, ◌<◌, ◌==◌, Bool, false, ◌↔◌, List, ◌∷◌, ◌++◌, length, take, Some, is_some, IsTrue}
use Rattle.std.specs.Option.{option_and_then}
use Rattle.cal_kinds.specs.KindNames.{kind_named}
use Rattle.cal_holidays.specs.RecordMoves.{moves_read}
use Rattle.cal_holidays.specs.RecordStarts.{recurrence_read, start_read}
use Rattle.cal_holidays.specs.RecordWords.{day_read, is_julian, is_name, leaping_named, month_of, nth_named, offset_read, rule_kind, week_named, weekday_named}
use Rattle.cal_holidays.specs.RecordYears.{every_read, year_read}
use Rattle.record_faults.specs.FirstFields.{IsValid}
use Rattle.record_faults.specs.RecordFaults.{record_fault, text_at}
use Rattle.record_faults.specs.declared.expected.FieldExpected.{FieldExpected}
use Rattle.record_faults.specs.declared.expected.FieldExpected.TheVariants.{Fields, Kind, Name, Calendar, EasterCalendar, Month, Nothing, Day, Offset, Leaping, Nth, Weekday, SpanWeekday, Recurrence, Start, Year, Every, NoEvery, Moves}
use Rattle.record_faults.specs.declared.faults.RecordFault.{RecordFault}

-- whether a text is what may stand in a field of a record with these fields; no text is a number of fields
abbrev pub may_stand : FieldExpected → List (List ℕ) → List ℕ → Bool
may_stand Fields fields text = false
may_stand Kind fields text = is_some (rule_kind text)
may_stand Name fields text = is_name text
may_stand Calendar fields text = is_some (kind_named text)
may_stand EasterCalendar fields text = is_some (is_julian text)
may_stand Month fields text =
    is_some (option_and_then (λ calendar. month_of calendar text) (kind_named (text_at fields 2)))
may_stand Nothing fields text = length text == 0
may_stand Day fields text = is_some (day_read text)
may_stand Offset fields text = is_some (offset_read text)
may_stand Leaping fields text = is_some (leaping_named text)
may_stand Nth fields text = is_some (nth_named text)
may_stand Weekday fields text = is_some (weekday_named text)
may_stand SpanWeekday fields text = is_some (week_named text)
may_stand Recurrence fields text =
    is_some (option_and_then (λ calendar. recurrence_read calendar text) (kind_named (text_at fields 2)))
may_stand Start fields text = is_some (start_read text)
may_stand Year fields text = is_some (year_read text)
may_stand Every fields text = is_some (option_and_then (λ since. every_read since text) (year_read (text_at fields 6)))
may_stand NoEvery fields text = length text == 0
may_stand Moves fields text = is_some (moves_read text)

-- a text may stand in the first invalid field exactly if some valid record begins with the fields before it and has the
-- text there
abbrev pub TextsThatMayStand : Type 0
TextsThatMayStand = (fields : List (List ℕ)) (fault : RecordFault) → record_fault fields ≡ Some fault → 0 < fault.field
    → (text : List ℕ) → IsTrue (may_stand fault.expected fields text)
    ↔ ((more : List (List ℕ)) × IsValid (take (fault.field - 1) fields ++ text ∷ more))
