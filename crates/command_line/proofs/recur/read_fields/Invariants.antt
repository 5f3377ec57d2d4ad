use Rattle.std.proofs.Common.{◌≡◌, Some, length}
use Rattle.cal_types.specs.Bag.{bag_of}
use Rattle.command_line.specs.Asked.{fields_of}
use Rattle.command_line.specs.CommandWordsLeft.{words_left}
use Rattle.command_line.proofs.recur.read_fields.Given as goal

-- the words that are left say what all of them said
abbrev pub invariant-loop-word : goal.invariant-loop-word
invariant-loop-word l = fields_of (Some (bag_of l.initial.fields)) (words_left l.initial.words) ≡ fields_of (Some (bag_of l.fields)) (words_left l.words)

abbrev pub decreases-loop-word : goal.decreases-loop-word
decreases-loop-word l = length (words_left l.words)
