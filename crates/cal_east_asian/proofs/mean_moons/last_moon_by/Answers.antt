use Rattle.std.proofs.Common.{arith}
use Rattle.std.proofs.lemmas.Grind.{common_steps}
use Rattle.cal_east_asian.proofs.mean_moons.last_moon_by.Goals as goal

pub returns-clause-near : goal.returns-clause-near
returns-clause-near c = grind (arith, common_steps)
