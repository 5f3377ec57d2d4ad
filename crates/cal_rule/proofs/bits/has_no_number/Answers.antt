use Rattle.cal_rule.proofs.BlankLemmas.{no_number}
use Rattle.cal_rule.proofs.bits.has_no_number.Goals as goal

pub returns : goal.returns
returns c = rw c.are_zero.ensures (no_number c.args.words.now (λ p. (c.type_inv.words p).fits))
