-- How a run of a command ends, and what it took and wrote.
use Rattle.std.specs.Prelude.{◌≡◌, ℕ, ◌<◌, ◌≤◌, Bool, true, false, List, [], length, take}
use Rattle.std.specs.Io.KnownBytes.{Appends, IsAtEnd}
use Rattle.byte_io.specs.Bytes.{IsPrefix}
use Rattle.byte_io.specs.Faults.{Rose}
use Rattle.calspan_run.specs.Run.{Outside, Exchanged, limit}
use Rattle.calspan_run.specs.declared.status.Status.{Status}
use Rattle.calspan_run.specs.declared.status.Status.TheVariants.{Done, Refused, Words, ReadFault, WriteFault, NoMemory, TableRefused, TooLong}

-- what a run of a command is held to: the text for an input, or for what has come of it, and how the run ends there;
-- the ends that it may come to at a line; the inputs for which memory may be lacking; and whether it keeps its input in
-- memory, so that an input beyond the limit lacks none
pub record Rules : Type 1 where
  pub Says : List ℕ → Bool → List ℕ → Status → Type 0
  pub EndsAtLine : Status → Type 0
  pub MayLack : List ℕ → Bool → Type 0
  pub KeepsInput : Type 0

-- the whole input was read, or a line ended the run, and the text is written
pub record Answered (c : Rules) (old new : Outside) (status : Status) : Type 0 where
  pub bytes : List ℕ
  pub text : List ℕ
  pub whole : Bool
  pub exchanged : Exchanged old new bytes text
  pub says : c.Says (take limit bytes) whole text status
  pub at_end : whole ≡ true → IsAtEnd new.left × (length bytes ≤ limit)
  pub at_line : whole ≡ false → c.EndsAtLine status

-- a fault of the source: the text for what came is written, and no line ended the run
pub record StoppedReading (c : Rules) (old new : Outside) : Type 0 where
  pub bytes : List ℕ
  pub text : List ℕ
  pub status : Status
  pub rose : Rose old.read_faults new.read_faults
  pub exchanged : Exchanged old new bytes text
  pub says : c.Says bytes false text status
  pub goes_on : c.EndsAtLine status → ⊥

-- a fault of the sink: a prefix of the text is written
pub record StoppedWriting (c : Rules) (old new : Outside) : Type 0 where
  pub bytes : List ℕ
  pub prefix : List ℕ
  pub text : List ℕ
  pub whole : Bool
  pub status : Status
  pub rose : Rose old.write_faults new.write_faults
  pub exchanged : Exchanged old new bytes prefix
  pub begins : IsPrefix prefix text
  pub says : c.Says bytes whole text status
  pub at_end : whole ≡ true → IsAtEnd new.left

-- more came than a run takes: the text for what is within the limit is written, and no line ended the run
pub record TookTooMuch (c : Rules) (old new : Outside) : Type 0 where
  pub bytes : List ℕ
  pub text : List ℕ
  pub status : Status
  pub more : limit < length bytes
  pub exchanged : Exchanged old new bytes text
  pub says : c.Says (take limit bytes) false text status
  pub goes_on : c.EndsAtLine status → ⊥

-- there was no memory, and nothing was written
pub record WantedMemory (c : Rules) (old new : Outside) : Type 0 where
  pub bytes : List ℕ
  pub whole : Bool
  pub exchanged : Exchanged old new bytes []
  pub may : c.MayLack (take limit bytes) whole
  pub within : c.KeepsInput → length bytes ≤ limit
  pub at_end : whole ≡ true → IsAtEnd new.left × (length bytes ≤ limit)

-- what is so where a run of a command ends with a status
abbrev pub Serves : Rules → Status → Outside → Outside → Type 0
Serves c Done old new = Answered c old new Done
Serves c Refused old new = Answered c old new Refused
Serves c Words old new = ⊥
Serves c ReadFault old new = StoppedReading c old new
Serves c WriteFault old new = StoppedWriting c old new
Serves c NoMemory old new = WantedMemory c old new
Serves c TableRefused old new = Answered c old new TableRefused
Serves c TooLong old new = TookTooMuch c old new

-- the input as a whole: all of its text is written, and the status is its end
pub record IsAnswered (c : Rules) (old new : Outside) (status : Status) (input : List ℕ) : Type 0 where
  pub text : List ℕ
  pub wrote : Appends old.taken new.taken text
  pub says : c.Says input true text status
