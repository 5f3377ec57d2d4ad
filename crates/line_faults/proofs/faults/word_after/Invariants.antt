use Rattle.std.proofs.Common.{◌≡◌, drop}
use Rattle.request_lines.specs.Words.{words_of}
use Rattle.request_lines.specs.WordsLeft.{words_left}
use Rattle.line_faults.proofs.faults.word_after.Given as goal

abbrev pub invariant-words : goal.invariant-words
invariant-words l = drop l.fn.others (words_of l.fn.text) ≡ drop l.left (words_left l.words)

abbrev pub decreases-words : goal.decreases-words
decreases-words l = l.left
