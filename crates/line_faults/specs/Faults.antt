-- The first fault of a line, word after word.
use Rattle.std.specs.Prelude.{ℕ, ◌+◌, List, [], ◌∷◌, Option, Some, None, if◌then◌else◌}
use Rattle.cal_types.specs.Bag.{Bag}
use Rattle.request_lines.specs.Bags.{no_fields}
use Rattle.line_faults.specs.Places.{may_end, step}
use Rattle.line_faults.specs.declared.expected.Expected.{Expected}
use Rattle.line_faults.specs.declared.expected.Expected.TheVariants.{First}
use Rattle.line_faults.specs.declared.faults.LineFault.{LineFault}

-- the fault of a word, by its number and what may stand there
abbrev pub fault_at : ℕ → Expected → LineFault
fault_at n at = record { word = n; expected = at }

-- the first fault from a place on, behind so many words; or that of the last of them, which can't stand where it does
abbrev pub fault_in : Option (Expected × Bag) → Expected → ℕ → List (List ℕ) → Option LineFault
fault_in None last n words = Some (fault_at n last)
fault_in (Some (at, bag)) last n [] = if may_end at then None else Some (fault_at (n + 1) at)
fault_in (Some (at, bag)) last n (word ∷ words) = fault_in (step at bag word) at (n + 1) words

-- the first fault of the words of a line
abbrev pub first_fault : List (List ℕ) → Option LineFault
first_fault words = fault_in (Some (First, no_fields)) First 0 words

-- the first of some words, if there is one
abbrev pub first_of : List (List ℕ) → Option (List ℕ)
first_of [] = None
first_of (word ∷ words) = Some word
