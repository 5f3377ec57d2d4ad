use Rattle.std.proofs.Common.{length}
use Rattle.cal_holidays.specs.RecordMoves.{words_from, words_of}
use Rattle.cal_holidays.proofs.MoveLemmas.{IsReadingMoves}
use Rattle.cal_holidays.proofs.record_moves.read_moves.Given as goal

abbrev pub invariant-words : goal.invariant-words
invariant-words l = IsReadingMoves l.days (words_of l.text) (words_from l.rest)

abbrev pub decreases-words : goal.decreases-words
decreases-words l = length (words_from l.rest)
