use Rattle.std.proofs.Common.{arith}
use Rattle.cal_days.proofs.Signed.{signed}
use Rattle.lunar_tests.proofs.late_rules.day_after.Goals as goal

pub new-requires : goal.new-requires
new-requires c = (omega (arith, signed, c.requires), omega (arith, signed, c.requires))

pub returns : goal.returns
returns c = omega (arith, signed, c.requires, c.new.ensures)
