-- What `convert` writes for an input, and how the run ends.
use Rattle.std.specs.Prelude.{◌≡◌, ℕ, ◌==◌, ◌||◌, Bool, true, false, List, [], ◌∷◌, Option, if◌then◌else◌}
use Rattle.byte_io.specs.Faults.{counted_on}
use Rattle.byte_io.specs.Lines.{lines_in}
use Rattle.cal_tables.specs.Kinds.{TableContents}
use Rattle.request_lines.specs.Lines.{Line, Nothing, GivesRow, Requests, line_of}
use Rattle.request_lines.specs.Rows.{Row}
use Rattle.table_rows.specs.RowLines.{RowOutcome, Kept, Faulty, TakesRow}
use Rattle.table_rows.specs.TableRows.{TableRows, no_rows}
use Rattle.table_rows.specs.declared.table.RowFault.{RowFault}
use Rattle.calspan_run.specs.BehindRows.{OverTables}
use Rattle.command_line.specs.ConvertAsked.{ConvertAsked}
use Rattle.calspan_run.specs.Converted.{is_bad, line_text}
use Rattle.calspan_run.specs.Refusals.{status_of}
use Rattle.calspan_run.specs.TableTexts.{row_refusal}
use Rattle.calspan_run.specs.TextSoFar.{lines_text}
use Rattle.calspan_run.specs.declared.status.Status.{Status}
use Rattle.calspan_run.specs.declared.status.Status.TheVariants.{Done, TableRefused}

-- whether a line is bad, or one was before it
abbrev pub any_bad : ConvertAsked → TableContents → Bool → List (List ℕ) → Bool
any_bad a tables before [] = before
any_bad a tables before (line ∷ more) = any_bad a tables (before || is_bad a tables line) more

-- the answers to lines over the tables
abbrev pub Converts : ConvertAsked → List (List ℕ) → TableContents → List ℕ → Status → Type 0
Converts a lines tables text status =
    (text ≡ lines_text (line_text a tables) lines) × (status ≡ status_of (any_bad a tables false lines))

-- a line at the head of an input: a comment, a row line, or a line with a date, at which the head ends
pub data HeadLine : Type 0 where
  Comment : HeadLine
  RowLine : Option Row → HeadLine
  Dated : HeadLine

abbrev pub said_line : Line → HeadLine
said_line Nothing = Dated
said_line (GivesRow row) = RowLine row
said_line (Requests request) = Dated

-- an empty line ends the head, as one does that begins with no `#` and is no row line
abbrev pub head_line : List ℕ → HeadLine
head_line [] = Dated
head_line (b ∷ line) = if b == 35 then Comment else said_line (line_of (b ∷ line))

-- what is so behind a row line: the row is kept, or refused
abbrev pub Behind : RowOutcome → (TableRows → Type 0) → (RowFault → Type 0) → Type 0
Behind (Kept next) OnKept OnFaulty = OnKept next
Behind (Faulty why) OnKept OnFaulty = OnFaulty why

-- what is so at a line of the head
abbrev pub AtLine : HeadLine → TableRows → (TableRows → Type 0) → (RowFault → Type 0) → Type 0 → Type 0
AtLine Comment rows GoesOn OnFaulty Ends = GoesOn rows
AtLine (RowLine row) rows GoesOn OnFaulty Ends =
    (outcome : RowOutcome) × TakesRow rows row outcome × Behind outcome GoesOn OnFaulty
AtLine Dated rows GoesOn OnFaulty Ends = Ends

-- where the head alone came
abbrev pub AtEnd : Bool → TableRows → List ℕ → Status → Type 0
AtEnd true rows text status = OverTables (λ tables t s. (t ≡ []) × (s ≡ Done)) rows text status
AtEnd false rows text status = (text ≡ []) × (status ≡ Done)

-- the text and the status from a line on, which has this number, behind these rows
abbrev pub SaysFrom : ConvertAsked → Bool → TableRows → ℕ → List (List ℕ) → List ℕ → Status → Type 0
SaysFrom a whole rows n [] text status = AtEnd whole rows text status
SaysFrom a whole rows n (line ∷ more) text status =
    AtLine (head_line line) rows (λ next. SaysFrom a whole next (counted_on n) more text status)
    (λ why. (text ≡ row_refusal n why) × (status ≡ TableRefused))
    (OverTables (Converts a (line ∷ more)) rows text status)

-- the text for an input, or for what has come of it, and how a run ends there
abbrev pub SaysConvert : ConvertAsked → List ℕ → Bool → List ℕ → Status → Type 0
SaysConvert a bytes whole text status = SaysFrom a whole no_rows 1 (lines_in bytes whole) text status
