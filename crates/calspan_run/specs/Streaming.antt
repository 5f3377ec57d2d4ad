-- How a run of a command ends that takes any number of bytes, and what it took and wrote.
use Rattle.std.specs.Prelude.{◌≡◌, ℕ, ◌<◌, ◌≤◌, Bool, true, false, List, [], length, IfSome}
use Rattle.std.specs.Io.KnownBytes.{IsAtEnd}
use Rattle.command_line.specs.ConvertAsked.{ConvertAsked}
use Rattle.calspan_run.specs.ConvertTexts.{SaysConvert}
use Rattle.calspan_run.specs.Run.{Outside, Exchanged, NoFault}
use Rattle.calspan_run.specs.Serving.{IsAnswered, Rules, StoppedReading, StoppedWriting}
use Rattle.calspan_run.specs.declared.status.Status.{Status}
use Rattle.calspan_run.specs.declared.status.Status.TheVariants.{Done, Refused, Words, ReadFault, WriteFault, NoMemory, TableRefused, TooLong}

-- `convert`: a line ends the run where it refuses a row or a table, and memory for a line may be lacking
abbrev pub convert_rules : ConvertAsked → Rules
convert_rules a = record {
  Says = SaysConvert a;
  EndsAtLine = λ status. status ≡ TableRefused;
  MayLack = λ bytes whole. Unit {0};
  KeepsInput = ⊥;
}

-- the most chunks that are read
abbrev pub most_reads : ℕ
most_reads = 18446744073709551615

-- the whole input was read, or a line ended the run, and the text is written
pub record StreamAnswered (c : Rules) (old new : Outside) (status : Status) : Type 0 where
  pub bytes : List ℕ
  pub text : List ℕ
  pub whole : Bool
  pub exchanged : Exchanged old new bytes text
  pub says : c.Says bytes whole text status
  pub at_end : whole ≡ true → IsAtEnd new.left
  pub at_line : whole ≡ false → c.EndsAtLine status

-- as many chunks came as are read: the text for them is written, and no line ended the run
pub record StreamTooLong (c : Rules) (old new : Outside) : Type 0 where
  pub bytes : List ℕ
  pub text : List ℕ
  pub status : Status
  pub more : most_reads ≤ length bytes
  pub exchanged : Exchanged old new bytes text
  pub says : c.Says bytes false text status
  pub goes_on : c.EndsAtLine status → ⊥

-- what is so where a run of a command ends with a status; without memory nothing was written
abbrev pub Streams : Rules → Status → Outside → Outside → Type 0
Streams c Done old new = StreamAnswered c old new Done
Streams c Refused old new = StreamAnswered c old new Refused
Streams c Words old new = ⊥
Streams c ReadFault old new = StoppedReading c old new
Streams c WriteFault old new = StoppedWriting c old new
Streams c NoMemory old new = (bytes : List ℕ) × Exchanged old new bytes []
Streams c TableRefused old new = StreamAnswered c old new TableRefused
Streams c TooLong old new = StreamTooLong c old new

-- how a run ended, and what it took and wrote; and over every input of fewer bytes, with no fault and with memory, all
-- of its text is written
pub record RunsStream (c : Rules) (status : Status) (old new : Outside) : Type 0 where
  pub streams : Streams c status old new
  pub writes : IfSome old.left
      (λ input. length input < most_reads → NoFault old new → (status ≡ NoMemory → ⊥)
      → IsAnswered c old new status input)
