-- The text of a command that reads row lines first.
use Rattle.std.specs.Prelude.{◌≡◌, ℕ, Bool, true, false, List, [], ◌⊎◌}
use Rattle.cal_errors.specs.declared.errors.TableFault.{TableFault}
use Rattle.cal_tables.specs.Kinds.{TableContents}
use Rattle.byte_io.specs.Lines.{lines_in}
use Rattle.request_lines.specs.Lines.{RequestLine}
use Rattle.table_rows.specs.RowLines.{RowsEnd, WithLines, AtFaultyRow, AtRequest, EndRows}
use Rattle.table_rows.specs.TableRows.{TableRows, contents_of, AreAccepted, IsFirstRefused}
use Rattle.calspan_run.specs.TableTexts.{row_refusal, table_refusal}
use Rattle.calspan_run.specs.declared.status.Status.{Status}
use Rattle.calspan_run.specs.declared.status.Status.TheVariants.{Done, TableRefused}
use Rattle.table_rows.specs.declared.table.Table.{Table}

-- the tables aren't accepted, and the first fault is named
abbrev pub RefusesTables : TableRows → List ℕ → Type 0
RefusesTables rows text =
    (table : Table) × (fault : TableFault) × IsFirstRefused rows table fault × (text ≡ table_refusal table fault)

-- what is written over the tables, where they are accepted
abbrev pub OverTables : (TableContents → List ℕ → Status → Type 0) → TableRows → List ℕ → Status → Type 0
OverTables Writes rows text status =
    (AreAccepted rows × Writes (contents_of rows) text status) ⊎ (RefusesTables rows text × (status ≡ TableRefused))

-- what a command writes where row lines alone came, over the tables, and what it writes at another line
pub record Behind : Type 1 where
  pub AtEnd : TableContents → List ℕ → Status → Type 0
  pub AtLine : TableRows → ℕ → RequestLine → List (List ℕ) → List ℕ → Status → Type 0

-- the text and the status, by where the row lines end
abbrev pub SaysAt : Behind → RowsEnd → Bool → TableRows → List ℕ → Status → Type 0
SaysAt b WithLines true rows text status = OverTables b.AtEnd rows text status
SaysAt b WithLines false rows text status = (text ≡ []) × (status ≡ Done)
SaysAt b (AtFaultyRow n why) whole rows text status = (text ≡ row_refusal n why) × (status ≡ TableRefused)
SaysAt b (AtRequest n request others) whole rows text status = b.AtLine rows n request others text status

-- the text for an input, or for what has come of it, and how a run ends there
pub record SaysBehindRows (b : Behind) (bytes : List ℕ) (whole : Bool) (text : List ℕ) (status : Status) : Type 0 where
  pub rows : TableRows
  pub end : RowsEnd
  pub ends : EndRows end (lines_in bytes whole) rows
  pub says : SaysAt b end whole rows text status
