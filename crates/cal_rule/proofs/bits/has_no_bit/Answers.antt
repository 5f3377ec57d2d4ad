use Rattle.cal_rule.proofs.BlankLemmas.{no_bit}
use Rattle.cal_rule.proofs.bits.has_no_bit.Goals as goal

pub returns : goal.returns
returns c = no_bit c.args.word c.ranges.word.fits
