use Rattle.std.proofs.Common.{arith}
use Rattle.std.proofs.lemmas.Grind.{common_steps}
use Rattle.cal_arith.proofs.past.surpasses_in_year.Goals as goal

pub returns-else-is_past : goal.returns-else-is_past
returns-else-is_past g c = grind (arith, common_steps)

pub returns-then-is_past : goal.returns-then-is_past
returns-then-is_past g c = grind (arith, common_steps)
