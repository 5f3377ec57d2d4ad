use Rattle.cal_rule.proofs.BitLemmas.{bit-set}
use Rattle.cal_rule.proofs.bits.with_bit.Goals as goal

pub returns : goal.returns
returns c = bit-set c.args.word c.args.bit c.requires
