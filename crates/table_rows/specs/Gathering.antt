-- Where reading row lines stands, and where they came to an end.
use Rattle.std.specs.Prelude.{◌≡◌, ℕ, ◌+◌, ◌<◌, ◌≤◌, Bool, true, false, nat_lt, List, [], ◌∷◌, ◌++◌, length, take, Option, if◌then◌else◌}
use Rattle.std.specs.Io.KnownBytes.{Consumes, IsAtEnd}
use Rattle.byte_io.specs.Faults.{Rose}
use Rattle.byte_io.specs.Buffer.{Holds}
use Rattle.byte_io.specs.Lines.{lines_in, open_line}
use Rattle.byte_io.specs.Reader.{IsAt, lines_given, limit}
use Rattle.byte_io.specs.declared.buffer.LineBuffer.{LineBuffer}
use Rattle.byte_io.specs.declared.reader.Reader.{Reader}
use Rattle.request_lines.specs.Lines.{GivesRow, RequestLine, Requests, IsLine}
use Rattle.request_lines.specs.Rows.{Row}
use Rattle.table_rows.specs.RowLines.{Kept, Faulty, TakesRow, LineTakesMemory, RowTakesMemory, KeepsLine, AreRows, AtFaultyRow, AtRequest, EndRows}
use Rattle.table_rows.specs.TableRows.{TableRows}
use Rattle.table_rows.specs.declared.gathering.Gathered.{Gathered}
use Rattle.table_rows.specs.declared.gathering.Gathered.TheVariants as gathered
use Rattle.table_rows.specs.declared.gathering.LineGathered.{LineGathered}
use Rattle.table_rows.specs.declared.gathering.LineGathered.TheVariants as line
use Rattle.table_rows.specs.declared.gathering.Stop.{Stop}
use Rattle.table_rows.specs.declared.gathering.Stop.TheVariants.{ReadFault, TooLong, NoMemory}
use Rattle.table_rows.specs.declared.table.RowFault.{RowFault}

-- the lines of an input, by those whose LF is there and what follows the last LF
abbrev pub with_open_line : List (List ℕ) → List ℕ → List (List ℕ)
with_open_line closed open_line = if nat_lt 0 (length open_line) then closed ++ open_line ∷ [] else closed

-- what a line did that isn't silent, over the rows before it and those behind it
abbrev pub IsSaidGathered : LineGathered → List ℕ → TableRows → TableRows → Type 0
IsSaidGathered line.GoesOn whole old new =
    (row : Option Row) × IsLine whole (GivesRow row) × TakesRow old row (Kept new)
IsSaidGathered line.Request whole old new = ((request : RequestLine) × IsLine whole (Requests request)) × (new ≡ old)
IsSaidGathered (line.Refused why) whole old new =
    ((row : Option Row) × IsLine whole (GivesRow row) × TakesRow old row (Faulty why)) × (new ≡ old)
IsSaidGathered line.NoMemory whole old new = LineTakesMemory whole × (new ≡ old)

-- what a line did, over the rows before it and those behind it
abbrev pub IsGathered : LineGathered → List ℕ → TableRows → TableRows → Type 0
IsGathered line.GoesOn whole old new = KeepsLine whole old new
IsGathered line.Request whole old new = ((request : RequestLine) × IsLine whole (Requests request)) × (new ≡ old)
IsGathered (line.Refused why) whole old new =
    (row : Option Row) × IsLine whole (GivesRow row) × TakesRow old row (Faulty why)
IsGathered line.NoMemory whole old new = LineTakesMemory whole

-- row lines came: these bytes were taken, and these lines came
pub record IsGathering (left now : Option (List ℕ)) (r : Reader) (line : LineBuffer) (rows : TableRows) : Type 0 where
  pub bytes : List ℕ
  pub lines : List (List ℕ)
  pub rest : List ℕ
  pub took : Consumes left now bytes
  pub at : IsAt r bytes lines rest
  pub holds : Holds line rest
  pub counted : lines_given r ≡ length lines
  pub are_rows : AreRows lines rows

-- another line came: the buffer holds it
pub record MetRequest (left now : Option (List ℕ)) (r : Reader) (line : LineBuffer) (rows : TableRows) : Type 0 where
  pub bytes : List ℕ
  pub lines : List (List ℕ)
  pub whole : List ℕ
  pub request : RequestLine
  pub says : IsLine whole (Requests request)
  pub took : Consumes left now bytes
  pub at : IsAt r bytes (lines ++ whole ∷ []) []
  pub holds : Holds line whole
  pub counted : lines_given r ≡ length lines + 1
  pub are_rows : AreRows lines rows

-- the source came to its end, and what follows the last LF is another line, which the buffer holds
pub record MetLast (left now : Option (List ℕ)) (r : Reader) (line : LineBuffer) (rows : TableRows) : Type 0 where
  pub bytes : List ℕ
  pub lines : List (List ℕ)
  pub request : RequestLine
  pub says : IsLine (open_line bytes) (Requests request)
  pub took : Consumes left now bytes
  pub at_end : IsAtEnd now
  pub within : length bytes ≤ limit
  pub all : lines_in bytes false ≡ lines
  pub holds : Holds line (open_line bytes)
  pub counted : lines_given r ≡ length lines
  pub are_rows : AreRows lines rows

-- the source came to its end, and row lines alone came
pub record MetEnd (left now : Option (List ℕ)) (rows : TableRows) : Type 0 where
  pub bytes : List ℕ
  pub took : Consumes left now bytes
  pub at_end : IsAtEnd now
  pub within : length bytes ≤ limit
  pub are_rows : AreRows (lines_in bytes true) rows

-- the row line of this number is refused
pub record MetFaulty (left now : Option (List ℕ)) (n : ℕ) (why : RowFault) : Type 0 where
  pub bytes : List ℕ
  pub whole : Bool
  pub rows : TableRows
  pub took : Consumes left now bytes
  pub at_end : whole ≡ true → IsAtEnd now × (length bytes ≤ limit)
  pub ends : EndRows (AtFaultyRow n why) (lines_in (take limit bytes) whole) rows

-- the line of this number is another line, behind these rows, and says this
pub record MetOther (left now : Option (List ℕ)) (n : ℕ) (request : RequestLine) (rows : TableRows) : Type 0 where
  pub bytes : List ℕ
  pub whole : Bool
  pub others : List (List ℕ)
  pub took : Consumes left now bytes
  pub at_end : whole ≡ true → IsAtEnd now × (length bytes ≤ limit)
  pub ends : EndRows (AtRequest n request others) (lines_in (take limit bytes) whole) rows

-- the source failed or gave too much, or a row takes memory and none was left
abbrev pub Stops : Stop → Option (List ℕ) → Option (List ℕ) → ℕ → ℕ → Type 0
Stops ReadFault left now faults more =
    (bytes : List ℕ) × (rows : TableRows) × Rose faults more × Consumes left now bytes
    × AreRows (lines_in bytes false) rows
Stops TooLong left now faults more =
    (bytes : List ℕ) × (rows : TableRows) × (limit < length bytes) × Consumes left now bytes
    × AreRows (lines_in (take limit bytes) false) rows
Stops NoMemory left now faults more =
    (bytes : List ℕ) × (whole : Bool) × Consumes left now bytes × RowTakesMemory (lines_in (take limit bytes) whole)
    × (whole ≡ true → IsAtEnd now × (length bytes ≤ limit))

-- where the row lines came to an end
abbrev pub Gathers : Gathered → Option (List ℕ) → Option (List ℕ) → ℕ → ℕ → Reader → LineBuffer → TableRows → Type 0
Gathers gathered.Request left now faults more r line rows = MetRequest left now r line rows
Gathers gathered.LastRequest left now faults more r line rows = MetLast left now r line rows
Gathers gathered.End left now faults more r line rows = MetEnd left now rows
Gathers (gathered.Refused n why) left now faults more r line rows = MetFaulty left now n why
Gathers (gathered.Stopped stop) left now faults more r line rows = Stops stop left now faults more
