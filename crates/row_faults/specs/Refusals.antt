-- The rows that are refused: they are the ones with a fault.
use Rattle.std.specs.Prelude.{◌≡◌, ℕ, ◌+◌, List, [], ◌∷◌, ◌++◌, length, Option, Some, None, MatchOption}
use Rattle.std.specs.Option.{option_map}
use Rattle.cal_east_asian.specs.declared.east_asian_traditional_year.EastAsianTraditionalYear.{EastAsianTraditionalYear}
use Rattle.cal_gregory.specs.JapaneseEraList.{ListedEra}
use Rattle.cal_hijri.specs.declared.hijri_year.HijriYear.{HijriYear}
use Rattle.request_lines.specs.Lines.{GivesRow, IsLine}
use Rattle.request_lines.specs.RowForms.{IsRow}
use Rattle.request_lines.specs.Rows.{Row, China, Korea, Hijri, Persian, Era}
use Rattle.table_rows.specs.RowLines.{AtFaultyRow, AtRequest, EndRows, Faulty, Kept, RowOutcome, RowsEnd, TakesRow, WithLines}
use Rattle.table_rows.specs.RowYears.{IsEastAsianYear, IsHijriYear}
use Rattle.table_rows.specs.TableRows.{TableRows, eras_of_row}
use Rattle.table_rows.specs.declared.table.RowFault.{RowFault}
use Rattle.table_rows.specs.declared.table.RowFault.TheVariants.{Syntax, Range, Late}
use Rattle.row_faults.specs.RowFaults.{row_fault}
use Rattle.row_faults.specs.Stages.{after_line, after_lines, line_fault}
use Rattle.row_faults.specs.declared.allowed.Allowed.{Allowed}
use Rattle.row_faults.specs.declared.allowed.Allowed.TheVariants.{Span, SpanForRow, YearTable, RuleYear, LunisolarStart, HijriStart, LeapMonth, EraYear, EraMonth, EraDay, EraIndex}
use Rattle.row_faults.specs.declared.faults.Fault.{Fault}
use Rattle.row_faults.specs.declared.faults.Fault.TheVariants.{Malformed, Misplaced}
use Rattle.row_faults.specs.declared.stages.Stage.{Stage}
use Rattle.row_faults.specs.declared.stages.Stage.TheVariants.{Rows, RowsWithEra, Ended}

-- the row has a year, or eras
abbrev pub Exists : Row → Type 0
Exists (China r) = (y : EastAsianTraditionalYear) × IsEastAsianYear r y
Exists (Korea r) = (y : EastAsianTraditionalYear) × IsEastAsianYear r y
Exists (Hijri r) = (y : HijriYear) × IsHijriYear r y
Exists (Persian y) = Unit {0}
Exists (Era r) = (eras : List ListedEra) × (eras_of_row r ≡ Some eras)

-- a row of a row line has a fault exactly where it has no year and no eras
abbrev pub FaultsAreMissingYears : Type 0
FaultsAreMissingYears = (words : List (List ℕ)) (r : Row) → IsRow words r
    → MatchOption (row_fault r) (Exists r) (λ allowed. Exists r → ⊥)

-- the word that the program has for it where rows are kept
abbrev pub refusal_of : Allowed → RowFault
refusal_of Span = Syntax
refusal_of SpanForRow = Late
refusal_of YearTable = Syntax
refusal_of RuleYear = Range
refusal_of LunisolarStart = Range
refusal_of HijriStart = Range
refusal_of LeapMonth = Range
refusal_of EraYear = Range
refusal_of EraMonth = Range
refusal_of EraDay = Range
refusal_of EraIndex = Range

abbrev pub refused_as : Fault → RowFault
refused_as (Malformed fault) = Syntax
refused_as (Misplaced allowed) = refusal_of allowed

-- the stage behind row lines that gave these eras
abbrev pub IsStageOf : Stage → Option (List ListedEra) → Type 0
IsStageOf Rows None = Unit {0}
IsStageOf Rows (Some eras) = ⊥
IsStageOf RowsWithEra None = ⊥
IsStageOf RowsWithEra (Some eras) = Unit {0}
IsStageOf Ended eras = ⊥

-- a row that is kept has no fault, and the stage is that of the rows with it; one that is refused has a fault of the
-- same name
abbrev pub Agrees : RowOutcome → Stage → Option Fault → Type 0
Agrees (Kept rows) after fault = (fault ≡ None) × IsStageOf after rows.eras
Agrees (Faulty why) after fault = option_map refused_as fault ≡ Some why

abbrev pub RowLinesAgree : Type 0
RowLinesAgree = (line : List ℕ) (row : Option Row) (rows : TableRows) (stage : Stage) (outcome : RowOutcome)
    → IsLine line (GivesRow row) → IsStageOf stage rows.eras → TakesRow rows row outcome
    → Agrees outcome (after_line stage line) (line_fault stage line)

-- no line has a fault
abbrev pub HaveNoFault : Stage → List (List ℕ) → Type 0
HaveNoFault stage [] = Unit {0}
HaveNoFault stage (line ∷ lines) = (line_fault stage line ≡ None) × HaveNoFault (after_line stage line) lines

-- the first line with a fault is the one of this number, and has one of this name
pub record FirstFaultyRow (lines : List (List ℕ)) (n : ℕ) (why : RowFault) : Type 0 where
  pub before : List (List ℕ)
  pub line : List ℕ
  pub more : List (List ℕ)
  pub all : lines ≡ before ++ line ∷ more
  pub number : n ≡ length before + 1
  pub none : HaveNoFault Rows before
  pub fault : option_map refused_as (line_fault (after_lines Rows before) line) ≡ Some why

-- no line before the one of this number has a fault, and the row lines have ended behind it
pub record FirstRequest (lines : List (List ℕ)) (n : ℕ) : Type 0 where
  pub before : List (List ℕ)
  pub line : List ℕ
  pub more : List (List ℕ)
  pub all : lines ≡ before ++ line ∷ more
  pub number : n ≡ length before + 1
  pub none : HaveNoFault Rows before
  pub ended : after_lines Rows (before ++ line ∷ []) ≡ Ended

abbrev pub AgreesAt : RowsEnd → List (List ℕ) → Type 0
AgreesAt WithLines lines = HaveNoFault Rows lines
AgreesAt (AtFaultyRow n why) lines = FirstFaultyRow lines n why
AgreesAt (AtRequest n request others) lines = FirstRequest lines n

-- the first row line with a fault is the one at which a run that keeps the rows stops
abbrev pub EndsAgree : Type 0
EndsAgree = (lines : List (List ℕ)) (end : RowsEnd) (rows : TableRows) → EndRows end lines rows → AgreesAt end lines
