-- How far the row lines are, and the fault of a line there.
use Rattle.std.specs.Prelude.{ℕ, Bool, true, false, List, [], ◌∷◌, Option, Some, None, if◌then◌else◌}
use Rattle.std.specs.Option.{option_and_then, option_map}
use Rattle.std.specs.Str.Lines.{strip_carriage_return}
use Rattle.line_faults.specs.Faults.{first_fault}
use Rattle.line_faults.specs.declared.expected.Expected.{Expected}
use Rattle.line_faults.specs.declared.expected.Expected.TheVariants.{First}
use Rattle.line_faults.specs.declared.faults.LineFault.{LineFault}
use Rattle.request_lines.specs.Lines.{Line, Nothing, GivesRow, Requests, line_of}
use Rattle.request_lines.specs.Rows.{Row, China, Korea, Hijri, Persian, Era}
use Rattle.request_lines.specs.Words.{words_of}
use Rattle.row_faults.specs.RowFaults.{era_fault, row_fault}
use Rattle.row_faults.specs.declared.allowed.Allowed.{Allowed}
use Rattle.row_faults.specs.declared.allowed.Allowed.TheVariants.{Span, SpanForRow, YearTable, RuleYear, LunisolarStart, HijriStart, LeapMonth, EraYear, EraMonth, EraDay, EraIndex}
use Rattle.row_faults.specs.declared.faults.Fault.{Fault}
use Rattle.row_faults.specs.declared.faults.Fault.TheVariants.{Malformed, Misplaced}
use Rattle.row_faults.specs.declared.stages.Stage.{Stage}
use Rattle.row_faults.specs.declared.stages.Stage.TheVariants.{Rows, RowsWithEra, Ended}

-- behind an era's row, which counts if it has no fault
abbrev pub after_era : Option Allowed → Stage
after_era None = RowsWithEra
after_era (Some allowed) = Rows

-- behind the first row lines and this one
abbrev pub after_first_rows : Option Row → Stage
after_first_rows None = Rows
after_first_rows (Some (China r)) = Rows
after_first_rows (Some (Korea r)) = Rows
after_first_rows (Some (Hijri r)) = Rows
after_first_rows (Some (Persian y)) = Rows
after_first_rows (Some (Era r)) = after_era (era_fault r)

-- behind a row line
abbrev pub after_row : Stage → Option Row → Stage
after_row Rows row = after_first_rows row
after_row RowsWithEra row = RowsWithEra
after_row Ended row = Ended

-- behind a line, by what it says: row lines end with the first line that is neither ignored nor one of them
abbrev pub after_said : Line → Stage → Stage
after_said Nothing stage = stage
after_said (GivesRow row) stage = after_row stage row
after_said (Requests request) stage = Ended

-- behind a line, and behind some lines
abbrev pub after_line : Stage → List ℕ → Stage
after_line stage line = after_said (line_of line) stage

abbrev pub after_lines : Stage → List (List ℕ) → Stage
after_lines stage [] = stage
after_lines stage (line ∷ lines) = after_lines (after_line stage line) lines

-- the place of the word
abbrev pub place_of : Allowed → ℕ
place_of Span = 1
place_of SpanForRow = 1
place_of YearTable = 2
place_of RuleYear = 3
place_of LunisolarStart = 4
place_of HijriStart = 4
place_of LeapMonth = 6
place_of EraYear = 3
place_of EraMonth = 4
place_of EraDay = 5
place_of EraIndex = 7

abbrev pub word_of : Fault → ℕ
word_of (Malformed fault) = fault.word
word_of (Misplaced allowed) = place_of allowed

-- whether the first word is wrong
abbrev pub is_first : Expected → Bool
is_first First = true
is_first _ = false

-- where the row lines have ended, `row` can't be the first word either
abbrev pub ended_fault : LineFault → Fault
ended_fault fault = if is_first fault.expected then Misplaced Span else Malformed fault

-- the fault of a request line with a malformed word
abbrev pub stage_fault : Stage → LineFault → Fault
stage_fault Rows fault = Malformed fault
stage_fault RowsWithEra fault = Malformed fault
stage_fault Ended fault = ended_fault fault

abbrev pub request_line_fault : Stage → Option LineFault → Option Fault
request_line_fault stage fault = option_map (stage_fault stage) fault

-- the fault of a row behind an era's: it can't be another era's
abbrev pub fault_with_era : Row → Option Allowed
fault_with_era (China r) = row_fault (China r)
fault_with_era (Korea r) = row_fault (Korea r)
fault_with_era (Hijri r) = row_fault (Hijri r)
fault_with_era (Persian y) = row_fault (Persian y)
fault_with_era (Era r) = Some YearTable

-- a malformed word, or what else is wrong
abbrev pub malformed_or : Option LineFault → Option Allowed → Option Fault
malformed_or None allowed = option_map Misplaced allowed
malformed_or (Some fault) allowed = Some (Malformed fault)

-- the fault of a row line with this row, if it says one, and this malformed word
abbrev pub row_line_fault : Stage → Option Row → Option LineFault → Option Fault
row_line_fault Rows row fault = malformed_or fault (option_and_then row_fault row)
row_line_fault RowsWithEra row fault = malformed_or fault (option_and_then fault_with_era row)
row_line_fault Ended row fault = Some (Misplaced SpanForRow)

-- the fault of what a line says in these words
abbrev pub said_fault : Line → Stage → List (List ℕ) → Option Fault
said_fault Nothing stage words = None
said_fault (GivesRow row) stage words = row_line_fault stage row (first_fault words)
said_fault (Requests request) stage words = request_line_fault stage (first_fault words)

-- the fault of a line
abbrev pub line_fault : Stage → List ℕ → Option Fault
line_fault stage line = said_fault (line_of line) stage (words_of (strip_carriage_return line))
