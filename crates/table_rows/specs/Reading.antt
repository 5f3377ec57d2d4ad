-- What becomes of a line of rows, and of a whole text of rows.
use Rattle.std.specs.Prelude.{◌≡◌, ℕ, ◌<◌, ◌≤◌, Bool, true, false, nat_le, List, length, take, Option, Result, Ok, Err}
use Rattle.byte_io.specs.Lines.{lines_in}
use Rattle.byte_io.specs.Reader.{limit}
use Rattle.request_lines.specs.Lines.{Nothing, GivesRow, Requests, RequestLine, Long, Asks, Malformed, IsLine}
use Rattle.request_lines.specs.Rows.{Row}
use Rattle.table_rows.specs.RowLines.{Kept, Faulty, TakesRow, LineTakesMemory, RowTakesMemory, AreRows, AtFaultyRow, AtRequest, EndRows}
use Rattle.table_rows.specs.RowsSaid.{rows_said}
use Rattle.table_rows.specs.TableRows as rows
use Rattle.table_rows.specs.declared.errors.RowError.{RowError}
use Rattle.table_rows.specs.declared.errors.RowError.TheVariants as line
use Rattle.table_rows.specs.declared.errors.RowsError.{RowsError}
use Rattle.table_rows.specs.declared.errors.RowsError.TheVariants as text
use Rattle.table_rows.specs.declared.rows.TableRows.{TableRows}

-- whether a line that is no row line has more than 512 bytes
abbrev pub is_long : RequestLine → Bool
is_long Long = true
is_long (Asks r) = false
is_long Malformed = false

-- a line that isn't silent and no row line, and whether it has more than 512 bytes
abbrev pub IsOtherLine : List ℕ → Bool → Type 0
IsOtherLine whole long = (request : RequestLine) × IsLine whole (Requests request) × (is_long request ≡ long)

-- a line was taken: its row is kept, or it gives nothing; or it wasn't, and nothing changes
abbrev pub IsLineTaken : Result Bool RowError → List ℕ → rows.TableRows → rows.TableRows → Type 0
IsLineTaken (Ok true) whole old new = (row : Option Row) × IsLine whole (GivesRow row) × TakesRow old row (Kept new)
IsLineTaken (Ok false) whole old new = IsLine whole Nothing × (new ≡ old)
IsLineTaken (Err (line.Row why)) whole old new =
    ((row : Option Row) × IsLine whole (GivesRow row) × TakesRow old row (Faulty why)) × (new ≡ old)
IsLineTaken (Err line.NoRow) whole old new = IsOtherLine whole false × (new ≡ old)
IsLineTaken (Err line.LongLine) whole old new = IsOtherLine whole true × (new ≡ old)
IsLineTaken (Err line.NoMemory) whole old new = LineTakesMemory whole × (new ≡ old)

-- each line of a text gives nothing or a row that is kept
abbrev pub IsRowText : List ℕ → Type 0
IsRowText whole = (kept : rows.TableRows) × AreRows (lines_in whole true) kept

-- the lines of a text as far as it is read: all of them, or those whose LF is within the limit
abbrev pub lines_read : List ℕ → List (List ℕ)
lines_read whole = lines_in (take limit whole) (nat_le (length whole) limit)

-- the row lines of a text end at the line of this number, which is no row line
abbrev pub EndsAtOther : List ℕ → ℕ → Bool → Type 0
EndsAtOther whole n long =
    (kept : rows.TableRows) × (request : RequestLine) × (others : List (List ℕ))
    × EndRows (AtRequest n request others) (lines_read whole) kept × (is_long request ≡ long)

-- the rows of a text within the limit were read; or its row lines end at a line that isn't taken, a row takes memory
-- and none was left, or all lines within the limit are taken and more bytes follow
abbrev pub IsTextRead : Result TableRows RowsError → List ℕ → Type 0
IsTextRead (Ok r) whole = AreRows (lines_in whole true) (rows_said r) × (length whole ≤ limit)
IsTextRead (Err (text.Row n why)) whole =
    (kept : rows.TableRows) × EndRows (AtFaultyRow n why) (lines_read whole) kept
IsTextRead (Err (text.NoRow n)) whole = EndsAtOther whole n false
IsTextRead (Err (text.LongLine n)) whole = EndsAtOther whole n true
IsTextRead (Err text.NoMemory) whole = RowTakesMemory (lines_read whole)
IsTextRead (Err text.TooLong) whole =
    (kept : rows.TableRows) × (limit < length whole) × AreRows (lines_in (take limit whole) false) kept
