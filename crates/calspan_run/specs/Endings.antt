-- How the last text of a run was written.
use Rattle.std.specs.Prelude.{◌≡◌, ℕ, ◌≤◌, Bool, true, false, List, ◌⊎◌, length, take, Option, Result, Ok, Err}
use Rattle.std.specs.Io.KnownBytes.{Appends, Consumes, IsAtEnd}
use Rattle.byte_io.specs.Faults.{Rose}
use Rattle.byte_io.specs.declared.Failed.{Failed}
use Rattle.calspan_run.specs.Refusals.{status_of}
use Rattle.calspan_run.specs.Run.{limit}
use Rattle.calspan_run.specs.Serving.{Rules}
use Rattle.calspan_run.specs.Written.{WrotePrefix}
use Rattle.calspan_run.specs.declared.status.Status.{Status}
use Rattle.calspan_run.specs.declared.status.Status.TheVariants.{Done, Refused, TableRefused, WriteFault}

-- how a run may end whose text is written
abbrev pub IsEnd : Status → Type 0
IsEnd s = (s ≡ Done) ⊎ ((s ≡ Refused) ⊎ (s ≡ TableRefused))

-- the text was written and the run ends with this status; or the sink counted a fault, and a prefix was written
abbrev pub EndsWith : Status → Status → Option (List ℕ) → Option (List ℕ) → ℕ → ℕ → List ℕ → Type 0
EndsWith result status before now faults more text =
    ((result ≡ status) × Appends before now text)
    ⊎ ((result ≡ WriteFault) × WrotePrefix before now text × Rose faults more)

-- a list was written, or the line that refuses it, or a prefix of one of the two
abbrev pub Listed : Result Bool Failed → Option (List ℕ) → Option (List ℕ) → (List ℕ → Bool → Type 0) → Type 0
Listed (Ok refused) before now Lists = (text : List ℕ) × Lists text refused × Appends before now text
Listed (Err e) before now Lists = (text : List ℕ) × (refused : Bool) × Lists text refused × WrotePrefix before now text

-- the text of a list was written, by the status that it ends with, or a prefix of a text that may be cut
abbrev pub EndsList : Result Bool Failed → Option (List ℕ) → Option (List ℕ) → (List ℕ → Status → Type 0) → Type 0
EndsList (Ok refused) before now Ends = (text : List ℕ) × Ends text (status_of refused) × Appends before now text
EndsList (Err e) before now Ends = (text : List ℕ) × (status : Status) × Ends text status × WrotePrefix before now text

-- a run ended with its text written; or the sink counted a fault, and a prefix was written
abbrev pub EndsOver : Status → Status → Option (List ℕ) → Option (List ℕ) → ℕ → ℕ → List ℕ → Type 0
EndsOver result status before now faults more text =
    (IsEnd status × (result ≡ status) × Appends before now text)
    ⊎ ((result ≡ WriteFault) × WrotePrefix before now text × Rose faults more)

-- these bytes were taken, and a run of a command may end with this text and status
pub record MayEnd (c : Rules) (left now : Option (List ℕ)) (text : List ℕ) (status : Status) : Type 0 where
  pub bytes : List ℕ
  pub whole : Bool
  pub took : Consumes left now bytes
  pub says : c.Says (take limit bytes) whole text status
  pub at_end : whole ≡ true → IsAtEnd now × (length bytes ≤ limit)
  pub at_line : whole ≡ false → c.EndsAtLine status
