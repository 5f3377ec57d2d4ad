-- Where a run of `convert` stands behind the head of its input.
use Rattle.std.specs.Prelude.{◌≡◌, ℕ, ◌≤◌, Bool, List, [], ◌∷◌, ◌++◌, length, Option, Result, Ok, Err}
use Rattle.std.specs.Io.KnownBytes.{Consumes}
use Rattle.byte_io.specs.Lines.{closed_lines, open_line}
use Rattle.byte_io.specs.declared.Failed.{Failed}
use Rattle.long_lines.specs.Buffer.{Holds}
use Rattle.long_lines.specs.Reader.{IsAt, IsSpent}
use Rattle.long_lines.specs.declared.buffer.LongLine.{LongLine}
use Rattle.long_lines.specs.declared.reader.LineReader.{LineReader}
use Rattle.table_rows.specs.TableRows.{TableRows, contents_of, no_rows}
use Rattle.command_line.specs.ConvertAsked.{ConvertAsked}
use Rattle.calspan_run.specs.Converted.{Answer, line_text}
use Rattle.calspan_run.specs.ConvertTexts.{SaysFrom, any_bad}
use Rattle.calspan_run.specs.Refusals.{status_of}
use Rattle.calspan_run.specs.Run.{Outside}
use Rattle.calspan_run.specs.Serving.{StoppedWriting}
use Rattle.calspan_run.specs.Streaming.{convert_rules}
use Rattle.calspan_run.specs.TextSoFar.{TextSoFar, lines_text}
use Rattle.calspan_run.specs.Written.{WrotePrefix}

-- an answer was put behind what is pending
pub record IsPushed (is_bad : Bool) (old new : List ℕ) (answer : Answer) : Type 0 where
  pub bad : is_bad ≡ answer.1
  pub text : new ≡ old ++ answer.0

-- an answer was put behind a text, or a write failed
abbrev pub AnsweredLine : Result Bool Failed → Option (List ℕ) → Option (List ℕ) → List ℕ → List ℕ → Answer → Type 0
AnsweredLine (Ok bad) before now pending text answer =
    (bad ≡ answer.1) × TextSoFar before now pending (text ++ answer.0)
AnsweredLine (Err e) before now pending text answer = WrotePrefix before now (text ++ answer.0)

-- these lines have this text, whatever lines follow, and one of them is bad or none
abbrev pub ConvertsTo : ConvertAsked → TableRows → List (List ℕ) → List ℕ → Bool → Type 0
ConvertsTo a rows lines text bad =
    (whole : Bool) (more : List (List ℕ))
    → SaysFrom a whole no_rows 1 (lines ++ more) (text ++ lines_text (line_text a (contents_of rows)) more)
    (status_of (any_bad a (contents_of rows) bad more))

-- what follows the last LF is a line where it isn't empty
abbrev pub open_lines : List ℕ → List (List ℕ)
open_lines [] = []
open_lines (b ∷ line) = (b ∷ line) ∷ []

-- these bytes were taken in so many reads, these lines are answered, and this rest of a line is held
pub record IsConverting (a : ConvertAsked) (rows : TableRows) (old new : Outside) (r : LineReader) (line : LongLine)
    (pending : List ℕ) (bad : Bool) (reads : ℕ) : Type 0 where
  pub bytes : List ℕ
  pub lines : List (List ℕ)
  pub rest : List ℕ
  pub text : List ℕ
  pub took : Consumes old.left new.left bytes
  pub some : reads ≤ length bytes
  pub at : IsAt r bytes lines rest
  pub holds : Holds line rest
  pub so_far : TextSoFar old.taken new.taken pending text
  pub converts : ConvertsTo a rows lines text bad
  pub read_later : old.read_faults ≤ new.read_faults
  pub write_later : old.write_faults ≤ new.write_faults

-- all lines that came are answered
pub record HasConverted (a : ConvertAsked) (rows : TableRows) (old new : Outside) (r : LineReader) (line : LongLine)
    (pending : List ℕ) (bad : Bool) (reads : ℕ) : Type 0 where
  pub converting : IsConverting a rows old new r line pending bad reads
  pub spent : IsSpent r
  pub closed : converting.lines ≡ closed_lines converting.bytes
  pub rest_open : converting.rest ≡ open_line converting.bytes

-- the lines of a chunk are answered, or a write failed
abbrev pub ConvertsChunk : Result Bool Failed → ConvertAsked → TableRows → Outside → Outside → LineReader → LongLine
    → List ℕ → ℕ → Type 0
ConvertsChunk (Ok bad) a rows old new r line pending reads = HasConverted a rows old new r line pending bad reads
ConvertsChunk (Err e) a rows old new r line pending reads = StoppedWriting (convert_rules a) old new
