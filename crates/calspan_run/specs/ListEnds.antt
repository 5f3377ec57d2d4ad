-- The ends of a run of a list, each by what was read and written.
use Rattle.std.specs.Prelude.{◌≡◌, ℕ, ◌<◌, ◌≤◌, Bool, true, false, List, [], ◌⊎◌, length, take}
use Rattle.std.specs.Io.KnownBytes.{IsAtEnd}
use Rattle.byte_io.specs.Faults.{Rose}
use Rattle.cal_tables.specs.Kinds.{TableContents}
use Rattle.byte_io.specs.Lines.{lines_in}
use Rattle.request_lines.specs.Lines.{RequestLine}
use Rattle.calspan_run.specs.BehindRows.{RefusesTables}
use Rattle.calspan_run.specs.ListAnswers.{line_refusal}
use Rattle.table_rows.specs.RowLines.{AreRows, AtFaultyRow, AtRequest, EndRows}
use Rattle.calspan_run.specs.Rules.{list_rules}
use Rattle.calspan_run.specs.Run.{Outside, Exchanged, limit}
use Rattle.calspan_run.specs.Serving.{StoppedWriting, WantedMemory}
use Rattle.table_rows.specs.TableRows.{TableRows, contents_of, AreAccepted}
use Rattle.calspan_run.specs.TableTexts.{row_refusal}
use Rattle.calspan_run.specs.declared.status.Status.{Status}
use Rattle.calspan_run.specs.declared.status.Status.TheVariants.{Done, Refused, Words, ReadFault, WriteFault, NoMemory, TableRefused, TooLong}
use Rattle.table_rows.specs.declared.table.RowFault.{RowFault}

-- the source was read to its end, its rows are accepted, and the list over them is written, or the line that refuses it
pub record AllListed (Lists : TableContents → List ℕ → Bool → Type 0) (old new : Outside)
    (refused : Bool) : Type 0 where
  pub bytes : List ℕ
  pub text : List ℕ
  pub rows : TableRows
  pub within : length bytes ≤ limit
  pub exchanged : Exchanged old new bytes text
  pub at_end : IsAtEnd new.left
  pub are_rows : AreRows (lines_in bytes true) rows
  pub accepted : AreAccepted rows
  pub lists : Lists (contents_of rows) text refused

-- a line was met that is no row line: the line that refuses it is written
pub record MetOther (old new : Outside) : Type 0 where
  pub bytes : List ℕ
  pub whole : Bool
  pub rows : TableRows
  pub number : ℕ
  pub said : RequestLine
  pub others : List (List ℕ)
  pub exchanged : Exchanged old new bytes (line_refusal number said)
  pub ends : EndRows (AtRequest number said others) (lines_in (take limit bytes) whole) rows
  pub at_end : whole ≡ true → IsAtEnd new.left × (length bytes ≤ limit)

-- a row line was met that is malformed or out of range: the line that refuses it is written
pub record MetFaultyRow (old new : Outside) : Type 0 where
  pub bytes : List ℕ
  pub whole : Bool
  pub rows : TableRows
  pub number : ℕ
  pub why : RowFault
  pub exchanged : Exchanged old new bytes (row_refusal number why)
  pub ends : EndRows (AtFaultyRow number why) (lines_in (take limit bytes) whole) rows
  pub at_end : whole ≡ true → IsAtEnd new.left × (length bytes ≤ limit)

-- the source was read to its end, and its rows aren't accepted
pub record TablesRefused (old new : Outside) : Type 0 where
  pub bytes : List ℕ
  pub text : List ℕ
  pub rows : TableRows
  pub within : length bytes ≤ limit
  pub exchanged : Exchanged old new bytes text
  pub at_end : IsAtEnd new.left
  pub are_rows : AreRows (lines_in bytes true) rows
  pub refuses : RefusesTables rows text

-- what is so where a run of a list ends with a status
abbrev pub ListEnds : (TableContents → List ℕ → Bool → Type 0) → Status → Outside → Outside → Type 0
ListEnds Lists Done old new = AllListed Lists old new false
ListEnds Lists Refused old new = AllListed Lists old new true ⊎ MetOther old new
ListEnds Lists Words old new = ⊥
ListEnds Lists ReadFault old new =
    (bytes : List ℕ) × (rows : TableRows) × Rose old.read_faults new.read_faults × Exchanged old new bytes []
    × AreRows (lines_in bytes false) rows
ListEnds Lists WriteFault old new = StoppedWriting (list_rules Lists) old new
ListEnds Lists NoMemory old new = WantedMemory (list_rules Lists) old new
ListEnds Lists TableRefused old new = MetFaultyRow old new ⊎ TablesRefused old new
ListEnds Lists TooLong old new =
    (bytes : List ℕ) × (rows : TableRows) × (limit < length bytes) × Exchanged old new bytes []
    × AreRows (lines_in (take limit bytes) false) rows
