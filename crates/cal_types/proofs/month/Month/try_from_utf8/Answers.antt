use Rattle.std.proofs.Common.{arith}
use Rattle.std.proofs.lemmas.Grind.{common_steps}
use Rattle.cal_types.proofs.month.Month.try_from_utf8.Goals as goal

pub returns-in-77-clause-code : goal.returns-in-77-clause-code
returns-in-77-clause-code c = grind (arith, common_steps)

pub returns-in-77-2-clause-code : goal.returns-in-77-2-clause-code
returns-in-77-2-clause-code c = grind (arith, common_steps)
