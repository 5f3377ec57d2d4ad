use Rattle.std.proofs.Common.{◌≡◌, ◌+◌, Some, length}
use Rattle.command_line.specs.CommandWordsLeft.{words_left}
use Rattle.command_line.specs.Faults.{fault_in, first_fault}
use Rattle.command_line.specs.PlaceSaid.{place_said}
use Rattle.command_line.specs.declared.part.CommandPart.TheVariants.{Command}
use Rattle.command_line.proofs.faults.fault_of.Given as goal

abbrev pub invariant-words : goal.invariant-words
invariant-words l = (first_fault (words_left l.initial.words) ≡ fault_in (Some (place_said l.place)) Command l.count (words_left l.words))
    × (l.count + length (words_left l.words) ≡ length (words_left l.initial.words))

abbrev pub decreases-words : goal.decreases-words
decreases-words l = length (words_left l.words)
