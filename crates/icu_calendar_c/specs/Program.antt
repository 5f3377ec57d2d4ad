-- What the program as a call answers.
use Rattle.std.specs.Prelude.{◌≡◌, ℕ, ◌<◌, Bool, true, false, List, [], ◌⊎◌, Option, Some, length}
use Rattle.command_line.specs.Command.{Asked}
use Rattle.calspan_run.specs.CommandRuns.{Ends}
use Rattle.calspan_run.specs.Run.{outside}
use Rattle.calspan_run.specs.Status.{code_of}
use Rattle.calspan_run.specs.declared.status.Status.{Status}
use Rattle.date_calls.specs.Rooms.{IsPut}

-- how a run over an input in memory ended, what it has written into a sink in memory, and how often that sink failed
pub record RunsInMemory (asked : Option Asked) (input : List ℕ) (status : Status) (text : List ℕ) (faults : ℕ)
    : Type 0 where
  pub left : Option (List ℕ)
  pub ends : Ends asked status (outside (Some input) (Some []) 0 0) (outside left (Some text) 0 faults)

-- the code is that of the status where the text fits into its room, and otherwise 8
abbrev pub placed_code : Bool → Status → ℕ
placed_code true status = code_of status
placed_code false status = 8

-- the text stands first in the room, with the code of a status; or the room is too short, and as it was
pub record IsHandedOver (status : Status) (text before now : List ℕ) (code written : ℕ) : Type 0 where
  pub fits : Bool
  pub put : IsPut fits text before now
  pub ends : code ≡ placed_code fits status
  pub count : written ≡ length text

-- a run whose sink never failed: its text is handed over, with its status
pub record IsPlaced (asked : Option Asked) (input : List ℕ) (code : ℕ) (before now : List ℕ) (written : ℕ)
    : Type 0 where
  pub status : Status
  pub text : List ℕ
  pub runs : RunsInMemory asked input status text 0
  pub handed : IsHandedOver status text before now code written

-- a run whose sink had no memory for a piece of the text: nothing is written
pub record LacksOutput (asked : Option Asked) (input : List ℕ) (code : ℕ) (before now : List ℕ) (written : ℕ)
    : Type 0 where
  pub status : Status
  pub text : List ℕ
  pub faults : ℕ
  pub failed : 0 < faults
  pub runs : RunsInMemory asked input status text faults
  pub ends : code ≡ 4
  pub none : written ≡ 0
  pub stands : now ≡ before

-- what a call over an input answers
abbrev pub IsAnswered : Option Asked → List ℕ → ℕ → List ℕ → List ℕ → ℕ → Type 0
IsAnswered asked input code before now written =
    IsPlaced asked input code before now written ⊎ LacksOutput asked input code before now written
