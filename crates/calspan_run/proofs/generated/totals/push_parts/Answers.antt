use Rattle.std.proofs.Common.{arith}
use Rattle.std.proofs.lemmas.Grind.{common_steps}
use Rattle.calspan_run.proofs.generated.totals.push_parts.Goals as goal

pub push-requires-3 : goal.push-requires-3
push-requires-3 c = grind (arith, common_steps)

pub returns-clause-items : goal.returns-clause-items
returns-clause-items c = grind (arith, common_steps)

pub push-requires-2 : goal.push-requires-2
push-requires-2 c = grind (arith, common_steps)

pub returns-clause-len : goal.returns-clause-len
returns-clause-len c = grind (arith, common_steps)
