use Rattle.std.proofs.Common.{arith}
use Rattle.std.proofs.lemmas.Grind.{common_steps}
use Rattle.dates_bench.proofs.measure.day_and_back.Goals as goal

pub returns : goal.returns
returns g c = grind (arith, common_steps)
