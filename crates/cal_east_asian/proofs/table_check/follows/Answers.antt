use Rattle.std.proofs.Common.{arith}
use Rattle.std.proofs.lemmas.Grind.{common_steps}
use Rattle.cal_east_asian.proofs.table_check.follows.Goals as goal

pub returns : goal.returns
returns c = grind (arith, common_steps)
