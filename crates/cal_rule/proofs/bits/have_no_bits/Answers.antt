use Rattle.cal_rule.proofs.BlankLemmas.{no_bits}
use Rattle.cal_rule.proofs.bits.have_no_bits.Goals as goal

pub returns : goal.returns
returns c = rw c.are_zero.ensures (no_bits c.args.words.now (λ p. (c.type_inv.words p).fits))
