-- Where a run of `span` stands behind the row lines.
use Rattle.std.specs.Prelude.{◌≡◌, ℕ, ◌≤◌, Bool, false, List, ◌∷◌, ◌++◌, length, Option, Result, Ok, Err}
use Rattle.std.specs.Io.KnownBytes.{Consumes}
use Rattle.byte_io.specs.declared.Failed.{Failed}
use Rattle.byte_io.specs.Buffer.{Holds}
use Rattle.byte_io.specs.Reader.{IsAt, lines_given}
use Rattle.byte_io.specs.declared.buffer.LineBuffer.{LineBuffer}
use Rattle.byte_io.specs.declared.reader.Reader.{Reader}
use Rattle.request_lines.specs.Lines.{RequestLine, Requests, IsLine, line_of}
use Rattle.calspan_run.specs.Progress.{standing_of}
use Rattle.table_rows.specs.RowLines.{EndBefore}
use Rattle.calspan_run.specs.Run.{Outside}
use Rattle.calspan_run.specs.Answers.{Standing, Answering, IsAnswerTo, AreAnswers}
use Rattle.table_rows.specs.TableRows.{TableRows, contents_of, AreAccepted}
use Rattle.calspan_run.specs.TextSoFar.{TextSoFar}
use Rattle.calspan_run.specs.Written.{WrotePrefix}
use Rattle.calspan_run.specs.declared.span.answers.Answered.{Answered}

-- the first of these lines are rows, which are accepted, and this text answers the others over them
pub record AnswersBehind (rows : TableRows) (lines : List (List ℕ)) (text : List ℕ) (s : Standing) : Type 0 where
  pub number : ℕ
  pub line : List ℕ
  pub more : List (List ℕ)
  pub request : RequestLine
  pub ends : EndBefore lines rows number line more
  pub says : IsLine line (Requests request)
  pub accepted : AreAccepted rows
  pub answers : AreAnswers (contents_of rows) (line ∷ more) number (Answering false) text s

-- a line was answered behind a text, or a write failed
abbrev pub Responded : Result Answered Failed → TableRows → ℕ → Bool → List ℕ → Option (List ℕ) → Option (List ℕ)
    → List ℕ → List ℕ → Type 0
Responded (Ok answered) rows number refused whole before now pending text =
    (added : List ℕ)
    × IsAnswerTo (line_of whole) (contents_of rows) number (Answering refused) added (standing_of answered)
    × TextSoFar before now pending (text ++ added)
Responded (Err e) rows number refused whole before now pending text = WrotePrefix before now text

-- these bytes were taken, these lines are answered, and this rest of a line is held
pub record IsUnderway (old new : Outside) (r : Reader) (line : LineBuffer) (pending : List ℕ) (rows : TableRows)
    (s : Standing) : Type 0 where
  pub bytes : List ℕ
  pub lines : List (List ℕ)
  pub rest : List ℕ
  pub text : List ℕ
  pub took : Consumes old.left new.left bytes
  pub at : IsAt r bytes lines rest
  pub holds : Holds line rest
  pub counted : lines_given r ≡ length lines
  pub answers : AnswersBehind rows lines text s
  pub so_far : TextSoFar old.taken new.taken pending text
  pub read_later : old.read_faults ≤ new.read_faults
  pub write_later : old.write_faults ≤ new.write_faults
