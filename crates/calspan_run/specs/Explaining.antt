-- Where a run of `explain` stands.
use Rattle.std.specs.Prelude.{◌≡◌, ℕ, ◌≤◌, Bool, false, List, length}
use Rattle.std.specs.Io.KnownBytes.{Consumes}
use Rattle.byte_io.specs.Buffer.{Holds}
use Rattle.byte_io.specs.Reader.{IsAt, lines_given}
use Rattle.byte_io.specs.declared.buffer.LineBuffer.{LineBuffer}
use Rattle.byte_io.specs.declared.reader.Reader.{Reader}
use Rattle.row_faults.specs.Stages.{after_lines}
use Rattle.row_faults.specs.declared.stages.Stage.{Stage}
use Rattle.row_faults.specs.declared.stages.Stage.TheVariants.{Rows}
use Rattle.calspan_run.specs.Explained.{any_malformed, explained}
use Rattle.calspan_run.specs.Run.{Outside}
use Rattle.calspan_run.specs.TextSoFar.{TextSoFar}

-- these bytes were taken, these lines are explained, and this rest of a line is held
pub record IsExplaining (old new : Outside) (r : Reader) (line : LineBuffer) (pending : List ℕ)
    (malformed : Bool) (stage : Stage) : Type 0 where
  pub bytes : List ℕ
  pub lines : List (List ℕ)
  pub rest : List ℕ
  pub took : Consumes old.left new.left bytes
  pub at : IsAt r bytes lines rest
  pub holds : Holds line rest
  pub counted : lines_given r ≡ length lines
  pub known : malformed ≡ any_malformed false Rows 1 lines
  pub stands : stage ≡ after_lines Rows lines
  pub so_far : TextSoFar old.taken new.taken pending (explained Rows 1 lines)
  pub read_later : old.read_faults ≤ new.read_faults
  pub write_later : old.write_faults ≤ new.write_faults
