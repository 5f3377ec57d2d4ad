use Rattle.std.proofs.Common.{arith}
use Rattle.std.proofs.lemmas.Grind.{common_steps}
use Rattle.cal_arith.proofs.adding.days_away.Goals as goal

pub returns-in-Backward : goal.returns-in-Backward
returns-in-Backward c = grind (arith, common_steps)

pub returns-in-Forward : goal.returns-in-Forward
returns-in-Forward c = grind (arith, common_steps)
