use Rattle.std.proofs.Common.{arith}
use Rattle.std.proofs.lemmas.Grind.{common_steps}
use Rattle.cal_arith.proofs.constructing.extended_year_of.Goals as goal

pub returns-in-Extended-clause-range : goal.returns-in-Extended-clause-range
returns-in-Extended-clause-range g c = grind (arith, common_steps)
