use Rattle.std.proofs.Common.{◌≡◌, Some, length}
use Rattle.cal_types.specs.Bag.{bag_of}
use Rattle.request_lines.specs.Bags.{bag_of_all}
use Rattle.request_lines.specs.WordsLeft.{words_left}
use Rattle.request_lines.proofs.bag.read_bag.Given as goal

abbrev pub invariant-loop-fields : goal.invariant-loop-fields
invariant-loop-fields l = bag_of_all (Some (bag_of l.initial.fields)) (words_left l.initial.words) ≡ bag_of_all (Some (bag_of l.fields)) (words_left l.words)

abbrev pub decreases-loop-fields : goal.decreases-loop-fields
decreases-loop-fields l = length (words_left l.words)
