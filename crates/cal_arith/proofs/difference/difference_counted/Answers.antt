use Rattle.std.proofs.Common.{arith}
use Rattle.std.proofs.lemmas.Grind.{common_steps}
use Rattle.cal_arith.proofs.difference.difference_counted.Goals as goal

pub returns-clause-until : goal.returns-clause-until
returns-clause-until g c = grind (arith, common_steps)
