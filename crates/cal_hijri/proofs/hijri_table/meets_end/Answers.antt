use Rattle.std.proofs.Common.{arith}
use Rattle.std.proofs.lemmas.Grind.{common_steps}
use Rattle.cal_hijri.proofs.hijri_table.meets_end.Goals as goal

pub overflow_add-index : goal.overflow_add-index
overflow_add-index c = grind (arith, common_steps)
