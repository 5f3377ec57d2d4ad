-- What the call on a line answers.
use Rattle.std.specs.Prelude.{◌≡◌, ℕ, Bool, true, false, List, length}
use Rattle.cal_tables.specs.Kinds.{TableContents}
use Rattle.request_lines.specs.Lines.{line_of}
use Rattle.calspan_run.specs.Answers.{Answering, IsAnswerTo}
use Rattle.calspan_run.specs.Progress.{answered_status, standing_of}
use Rattle.calspan_run.specs.Status.{code_of}
use Rattle.calspan_run.specs.declared.span.answers.Answered.{Answered}
use Rattle.date_calls.specs.Rooms.{IsPut}

-- the code is that of the status at which the line leaves a run, where its answer is in the room, and otherwise 8
abbrev pub IsCode : Bool → Answered → ℕ → Type 0
IsCode true answered code = code ≡ code_of (answered_status answered)
IsCode false answered code = code ≡ 8

-- the answer over tables to the line of a number, as it is behind requests, stands first in the room where it fits, and
-- its length is written
pub record IsLineAnswered (tables : TableContents) (line : List ℕ) (number code : ℕ) (before now : List ℕ)
    (written : ℕ) : Type 0 where
  pub text : List ℕ
  pub answered : Answered
  pub answer : IsAnswerTo (line_of line) tables number (Answering false) text (standing_of answered)
  pub fits : Bool
  pub put : IsPut fits text before now
  pub ends : IsCode fits answered code
  pub count : written ≡ length text
