-- How a run of a command ends that has read rows and a book as a whole.
use Rattle.std.specs.Prelude.{◌≡◌, ℕ, ◌<◌, true, List, ◌⊎◌, Option, length}
use Rattle.std.specs.Io.KnownBytes.{Keeps}
use Rattle.cal_tables.specs.Kinds.{TableContents}
use Rattle.table_rows.specs.TableRows.{TableRows}
use Rattle.calspan_run.specs.BehindRows.{OverTables}
use Rattle.calspan_run.specs.Endings.{EndsWith}
use Rattle.calspan_run.specs.Refusals.{status_of}
use Rattle.calspan_run.specs.Rules.{BookText, SaysBook, book_end}
use Rattle.calspan_run.specs.declared.status.Status.{Status}
use Rattle.calspan_run.specs.declared.status.Status.TheVariants.{NoMemory}

-- there was no memory for something of these bytes, and nothing was written
abbrev pub LacksMemory : Status → List ℕ → Option (List ℕ) → Option (List ℕ) → Type 0
LacksMemory result bytes before now = (result ≡ NoMemory) × (0 < length bytes) × Keeps before now

-- over some tables the text for the book was written, or a prefix of it; or there was no memory for the book
abbrev pub EndsBook : BookText → TableContents → Status → List ℕ → Option (List ℕ) → Option (List ℕ) → ℕ → ℕ → Type 0
EndsBook written tables result book before now faults more =
    EndsWith result (status_of (written tables book).1) before now faults more (written tables book).0
    ⊎ LacksMemory result book before now

-- the same over the tables of rows, where they are accepted
pub record EndsOverRows (written : BookText) (rows : TableRows) (result : Status) (book : List ℕ)
    (before now : Option (List ℕ)) (faults more : ℕ) : Type 0 where
  pub text : List ℕ
  pub status : Status
  pub over : OverTables (book_end written book) rows text status
  pub ends : EndsWith result status before now faults more text

-- a text of an input was written, or a prefix of it
pub record EndsInput (written : BookText) (result : Status) (bytes : List ℕ) (before now : Option (List ℕ))
    (faults more : ℕ) : Type 0 where
  pub text : List ℕ
  pub status : Status
  pub says : SaysBook written bytes true text status
  pub ends : EndsWith result status before now faults more text
