use Rattle.std.proofs.Common.{arith}
use Rattle.std.proofs.lemmas.Grind.{common_steps}
use Rattle.calspan_run.proofs.generated.totals.push_totals.Goals as goal

pub push-requires : goal.push-requires
push-requires c = grind (arith, common_steps)

pub push_parts-requires : goal.push_parts-requires
push_parts-requires c = grind (arith, common_steps)

pub push_signed-requires : goal.push_signed-requires
push_signed-requires c = grind (arith, common_steps)

pub push_all-requires-4 : goal.push_all-requires-4
push_all-requires-4 c = grind (arith, common_steps)

pub push_number-requires-3 : goal.push_number-requires-3
push_number-requires-3 c = grind (arith, common_steps)

pub push_all-requires-3 : goal.push_all-requires-3
push_all-requires-3 c = grind (arith, common_steps)

pub push_number-requires-2 : goal.push_number-requires-2
push_number-requires-2 c = grind (arith, common_steps)
