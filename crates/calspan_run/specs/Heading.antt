-- Where reading the head of an input of `convert` stands, and where it came to an end.
use Rattle.std.specs.Prelude.{◌≡◌, ℕ, ◌≤◌, Bool, true, false, List, [], ◌∷◌, ◌++◌, ◌⊎◌, length, Option, Some, None, Result, Ok, Err, not, ◌==◌}
use Rattle.std.specs.Io.KnownBytes.{Consumes, IsAtEnd}
use Rattle.byte_io.specs.Faults.{Rose, counted_on}
use Rattle.byte_io.specs.Lines.{closed_lines, lines_in, open_line}
use Rattle.long_lines.specs.Buffer.{Holds}
use Rattle.long_lines.specs.Reader.{IsAt, IsSpent}
use Rattle.long_lines.specs.declared.buffer.LongLine.{LongLine}
use Rattle.long_lines.specs.declared.reader.LineReader.{LineReader}
use Rattle.request_lines.specs.Rows.{Row}
use Rattle.table_rows.specs.RowLines.{Kept, Faulty, TakesRow}
use Rattle.table_rows.specs.TableRows.{TableRows, no_rows}
use Rattle.table_rows.specs.declared.errors.RowError.{RowError}
use Rattle.table_rows.specs.declared.errors.RowError.TheVariants as error
use Rattle.command_line.specs.ConvertAsked.{ConvertAsked}
use Rattle.calspan_run.specs.ConvertTexts as texts
use Rattle.calspan_run.specs.ConvertTexts.{SaysFrom, head_line}
use Rattle.calspan_run.specs.Streaming.{most_reads}
use Rattle.calspan_run.specs.TableTexts.{row_refusal}
use Rattle.calspan_run.specs.declared.convert.head.HeadLine.{HeadLine}
use Rattle.calspan_run.specs.declared.convert.head.HeadLine.TheVariants as head
use Rattle.calspan_run.specs.declared.convert.head.Headed.{Headed}
use Rattle.calspan_run.specs.declared.convert.head.Headed.TheVariants.{Dated, LastDated, End, Refused, ReadFault, NoMemory, TooLong}
use Rattle.calspan_run.specs.declared.status.Status.{Status}
use Rattle.calspan_run.specs.declared.status.Status.TheVariants.{Done, TableRefused}

-- what a row line did, over the rows before it and those behind it
abbrev pub TakesLine : HeadLine → List ℕ → TableRows → TableRows → Type 0
TakesLine head.GoesOn line old new =
    ((head_line line ≡ texts.Comment) × (new ≡ old))
    ⊎ ((row : Option Row) × (head_line line ≡ texts.RowLine row) × TakesRow old row (Kept new))
TakesLine head.Dated line old new = (head_line line ≡ texts.Dated) × (new ≡ old)
TakesLine (head.Refused why) line old new =
    (row : Option Row) × (head_line line ≡ texts.RowLine row) × TakesRow old row (Faulty why)
TakesLine head.NoMemory line old new = Unit {0}

-- the effect of a line that the rows took or not
abbrev pub taken_line : Result Bool RowError → HeadLine
taken_line (Ok true) = head.GoesOn
taken_line (Ok false) = head.Dated
taken_line (Err (error.Row why)) = head.Refused why
taken_line (Err error.NoRow) = head.Dated
taken_line (Err error.LongLine) = head.Dated
taken_line (Err error.NoMemory) = head.NoMemory

-- whether a line isn't empty and begins with no `#`
abbrev pub is_plain : List ℕ → Bool
is_plain [] = false
is_plain (b ∷ line) = not (b == 35)

-- these lines are the first of a head: they gave these rows, and have been counted
abbrev pub AreHead : List (List ℕ) → TableRows → ℕ → Type 0
AreHead lines rows n =
    (a : ConvertAsked) (whole : Bool) (more : List (List ℕ)) (text : List ℕ) (status : Status)
    → SaysFrom a whole rows (counted_on n) more text status → SaysFrom a whole no_rows 1 (lines ++ more) text status

-- these bytes were taken in so many reads, and the lines so far are those of the head
pub record IsHeading (left now : Option (List ℕ)) (r : LineReader) (line : LongLine) (rows : TableRows)
    (n reads : ℕ) : Type 0 where
  pub bytes : List ℕ
  pub lines : List (List ℕ)
  pub rest : List ℕ
  pub took : Consumes left now bytes
  pub some : reads ≤ length bytes
  pub at : IsAt r bytes lines rest
  pub holds : Holds line rest
  pub are_head : AreHead lines rows n

-- all bytes that came were looked at
pub record HasHeaded (left now : Option (List ℕ)) (r : LineReader) (line : LongLine) (rows : TableRows)
    (n reads : ℕ) : Type 0 where
  pub heading : IsHeading left now r line rows n reads
  pub spent : IsSpent r
  pub closed : heading.lines ≡ closed_lines heading.bytes
  pub rest_open : heading.rest ≡ open_line heading.bytes

-- a line with a date came: the buffer holds it
pub record MetDate (left now : Option (List ℕ)) (r : LineReader) (line : LongLine) (rows : TableRows) : Type 0 where
  pub bytes : List ℕ
  pub lines : List (List ℕ)
  pub number : ℕ
  pub whole : List ℕ
  pub took : Consumes left now bytes
  pub at : IsAt r bytes (lines ++ whole ∷ []) []
  pub holds : Holds line whole
  pub dated : head_line whole ≡ texts.Dated
  pub are_head : AreHead lines rows number

-- the source came to its end, and what follows the last LF has a date
pub record MetLastDate (left now : Option (List ℕ)) (line : LongLine) (rows : TableRows) : Type 0 where
  pub bytes : List ℕ
  pub lines : List (List ℕ)
  pub number : ℕ
  pub whole : List ℕ
  pub took : Consumes left now bytes
  pub at_end : IsAtEnd now
  pub all : lines_in bytes true ≡ lines ++ whole ∷ []
  pub some : whole ≡ [] → ⊥
  pub holds : Holds line whole
  pub dated : head_line whole ≡ texts.Dated
  pub are_head : AreHead lines rows number

-- the source came to its end, and the head alone came
pub record MetHeadEnd (left now : Option (List ℕ)) (rows : TableRows) : Type 0 where
  pub bytes : List ℕ
  pub number : ℕ
  pub took : Consumes left now bytes
  pub at_end : IsAtEnd now
  pub are_head : AreHead (lines_in bytes true) rows number

-- these bytes were taken, and this is said of them
pub record Said (left now : Option (List ℕ)) (whole : Bool) (text : List ℕ) (status : Status) : Type 0 where
  pub bytes : List ℕ
  pub took : Consumes left now bytes
  pub at_end : whole ≡ true → IsAtEnd now
  pub says : (a : ConvertAsked) → texts.SaysConvert a bytes whole text status

-- where the head came to an end
abbrev pub Heads : Headed → Option (List ℕ) → Option (List ℕ) → ℕ → ℕ → LineReader → LongLine → TableRows → Type 0
Heads Dated left now faults more r line rows = MetDate left now r line rows
Heads LastDated left now faults more r line rows = MetLastDate left now line rows
Heads End left now faults more r line rows = MetHeadEnd left now rows
Heads (Refused n why) left now faults more r line rows =
    (whole : Bool) × Said left now whole (row_refusal n why) TableRefused
Heads ReadFault left now faults more r line rows = Rose faults more × Said left now false [] Done
Heads NoMemory left now faults more r line rows = (bytes : List ℕ) × Consumes left now bytes
Heads TooLong left now faults more r line rows =
    (said : Said left now false [] Done) × (most_reads ≤ length said.bytes)

-- the head goes on behind the lines of a chunk, or came to an end
abbrev pub HeadsChunk : Option Headed → Option (List ℕ) → Option (List ℕ) → LineReader → LongLine → TableRows → ℕ → ℕ
    → Type 0
HeadsChunk None left now r line rows n reads = HasHeaded left now r line rows n reads
HeadsChunk (Some headed) left now r line rows n reads =
    (faults more : ℕ) → Heads headed left now faults more r line rows
