use Rattle.std.proofs.Common.{◌≡◌, ◌+◌, Some, length}
use Rattle.cal_types.specs.Bag.{bag_of}
use Rattle.request_lines.specs.Words.{words_of}
use Rattle.request_lines.specs.WordsLeft.{words_left}
use Rattle.line_faults.specs.Faults.{fault_in, first_fault}
use Rattle.line_faults.specs.declared.expected.Expected.TheVariants.{First}
use Rattle.line_faults.proofs.faults.line_fault.Given as goal

abbrev pub invariant-words : goal.invariant-words
invariant-words l = (first_fault (words_of l.fn.text) ≡ fault_in (Some (l.expected, bag_of l.fields)) First l.count (words_left l.words))
    × (l.count + length (words_left l.words) ≡ length (words_of l.fn.text))

abbrev pub decreases-words : goal.decreases-words
decreases-words l = length (words_left l.words)
