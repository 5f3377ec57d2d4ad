-- The first fault of a command line, word after word.
use Rattle.std.specs.Prelude.{ℕ, ◌+◌, List, [], ◌∷◌, Option, Some, None, if◌then◌else◌}
use Rattle.command_line.specs.Places.{First, Place, may_end, part_of, step}
use Rattle.command_line.specs.declared.faults.CommandFault.{CommandFault}
use Rattle.command_line.specs.declared.part.CommandPart.{CommandPart}
use Rattle.command_line.specs.declared.part.CommandPart.TheVariants.{Command}

-- the fault of a word, by its number and what may stand there
abbrev pub fault_at : ℕ → CommandPart → CommandFault
fault_at n part = record { word = n; part = part }

-- the first fault from a place on, behind so many words; or that of the last of them, which can't stand where it does
abbrev pub fault_in : Option Place → CommandPart → ℕ → List (List ℕ) → Option CommandFault
fault_in None last n words = Some (fault_at n last)
fault_in (Some place) last n [] = if may_end place then None else Some (fault_at (n + 1) (part_of place))
fault_in (Some place) last n (word ∷ words) = fault_in (step place word) (part_of place) (n + 1) words

-- the first fault of the words of a command line
abbrev pub first_fault : List (List ℕ) → Option CommandFault
first_fault words = fault_in (Some First) Command 0 words
