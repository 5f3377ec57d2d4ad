use Rattle.std.proofs.Common.{sym}
use Rattle.std.proofs.lemmas.List.{take_rest}
use Rattle.cal_holidays.proofs.SplitLemmas.{split_at_position, split_at_none}
use Rattle.cal_holidays.proofs.record_moves.cut.Goals as goal

pub returns-in-Some : goal.returns-in-Some
returns-in-Some c = rw take_rest (split_at_position _ _ _ (sym c.in-Some.ensures.value))

pub returns-in-None : goal.returns-in-None
returns-in-None c = split_at_none _ _ (sym c.in-None.ensures.value)
