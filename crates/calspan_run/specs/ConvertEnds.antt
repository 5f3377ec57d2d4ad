-- The ends of a run of `convert`, each by what was read and written.
use Rattle.std.specs.Prelude.{◌≡◌, ℕ, ◌≤◌, Bool, true, false, List, [], ◌∷◌, ◌++◌, ◌⊎◌, length, Option}
use Rattle.std.specs.Io.KnownBytes.{IsAtEnd}
use Rattle.byte_io.specs.Faults.{Rose, counted_on}
use Rattle.byte_io.specs.Lines.{lines_in}
use Rattle.request_lines.specs.Rows.{Row}
use Rattle.table_rows.specs.RowLines.{Faulty, Kept, TakesRow}
use Rattle.table_rows.specs.TableRows.{AreAccepted, TableRows, contents_of, no_rows}
use Rattle.table_rows.specs.declared.table.RowFault.{RowFault}
use Rattle.calspan_run.specs.BehindRows.{RefusesTables}
use Rattle.command_line.specs.ConvertAsked.{ConvertAsked}
use Rattle.calspan_run.specs.ConvertTexts.{Comment, Dated, HeadLine, RowLine, any_bad, head_line}
use Rattle.calspan_run.specs.Converted.{line_text}
use Rattle.calspan_run.specs.Run.{Outside, Exchanged}
use Rattle.calspan_run.specs.Serving.{StoppedWriting}
use Rattle.calspan_run.specs.Streaming.{convert_rules, most_reads}
use Rattle.calspan_run.specs.TableTexts.{row_refusal}
use Rattle.calspan_run.specs.TextSoFar.{lines_text}
use Rattle.calspan_run.specs.declared.status.Status.{Status}
use Rattle.calspan_run.specs.declared.status.Status.TheVariants.{Done, Refused, Words, ReadFault, WriteFault, NoMemory, TableRefused, TooLong}

-- a line of the head: a comment, or a row line whose row is kept behind these rows
abbrev pub KeepsHead : HeadLine → TableRows → TableRows → Type 0
KeepsHead Comment rows next = next ≡ rows
KeepsHead (RowLine row) rows next = TakesRow rows row (Kept next)
KeepsHead Dated rows next = ⊥

-- all of these lines are of the head
abbrev pub AddHead : List (List ℕ) → TableRows → TableRows → Type 0
AddHead [] rows end = end ≡ rows
AddHead (line ∷ more) rows end = (next : TableRows) × KeepsHead (head_line line) rows next × AddHead more next end

-- there are no lines, or the head ends at the first one
abbrev pub EndHead : List (List ℕ) → Type 0
EndHead [] = Unit {0}
EndHead (line ∷ more) = head_line line ≡ Dated

-- the head of these lines gives these rows, and these lines follow it
pub record HasHead (lines : List (List ℕ)) (rows : TableRows) (dated : List (List ℕ)) : Type 0 where
  pub head : List (List ℕ)
  pub are_head : AddHead head no_rows rows
  pub ends : EndHead dated
  pub all : lines ≡ head ++ dated

-- the source was read to its end, the rows of the head are accepted, and the lines behind it are answered over them
pub record AllConverted (a : ConvertAsked) (old new : Outside) (bad : Bool) : Type 0 where
  pub bytes : List ℕ
  pub rows : TableRows
  pub dated : List (List ℕ)
  pub at_end : IsAtEnd new.left
  pub has_head : HasHead (lines_in bytes true) rows dated
  pub accepted : AreAccepted rows
  pub exchanged : Exchanged old new bytes (lines_text (line_text a (contents_of rows)) dated)
  pub is_bad : bad ≡ any_bad a (contents_of rows) false dated

-- the lines that came behind the head, none or over accepted rows, are answered
pub record PartConverted (a : ConvertAsked) (old new : Outside) : Type 0 where
  pub bytes : List ℕ
  pub rows : TableRows
  pub dated : List (List ℕ)
  pub has_head : HasHead (lines_in bytes false) rows dated
  pub accepted : (dated ≡ []) ⊎ AreAccepted rows
  pub exchanged : Exchanged old new bytes (lines_text (line_text a (contents_of rows)) dated)

-- a row line was met in the head that is malformed or out of range: the line that refuses it is written
pub record RowRefused (old new : Outside) : Type 0 where
  pub bytes : List ℕ
  pub whole : Bool
  pub head : List (List ℕ)
  pub rows : TableRows
  pub line : List ℕ
  pub more : List (List ℕ)
  pub row : Option Row
  pub why : RowFault
  pub all : lines_in bytes whole ≡ head ++ line ∷ more
  pub are_head : AddHead head no_rows rows
  pub is_row : head_line line ≡ RowLine row
  pub refuses : TakesRow rows row (Faulty why)
  pub exchanged : Exchanged old new bytes (row_refusal (counted_on (length head)) why)
  pub at_end : whole ≡ true → IsAtEnd new.left

-- the head ended, with the source or at a line, and its rows aren't accepted
pub record HeadRefused (old new : Outside) : Type 0 where
  pub bytes : List ℕ
  pub text : List ℕ
  pub whole : Bool
  pub rows : TableRows
  pub dated : List (List ℕ)
  pub has_head : HasHead (lines_in bytes whole) rows dated
  pub ended : dated ≡ [] → whole ≡ true
  pub refuses : RefusesTables rows text
  pub exchanged : Exchanged old new bytes text
  pub at_end : whole ≡ true → IsAtEnd new.left

-- what is so where a run of `convert` ends with a status
abbrev pub ConvertEnds : ConvertAsked → Status → Outside → Outside → Type 0
ConvertEnds a Done old new = AllConverted a old new false
ConvertEnds a Refused old new = AllConverted a old new true
ConvertEnds a Words old new = ⊥
ConvertEnds a ReadFault old new = Rose old.read_faults new.read_faults × PartConverted a old new
ConvertEnds a WriteFault old new = StoppedWriting (convert_rules a) old new
ConvertEnds a NoMemory old new = (bytes : List ℕ) × Exchanged old new bytes []
ConvertEnds a TableRefused old new = RowRefused old new ⊎ HeadRefused old new
ConvertEnds a TooLong old new = (part : PartConverted a old new) × (most_reads ≤ length part.bytes)
