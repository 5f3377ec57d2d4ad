use Rattle.std.proofs.Common.{arith}
use Rattle.std.proofs.lemmas.Grind.{common_steps}
use Rattle.cal_hijri.proofs.hijri_table.are_same_rows.Goals as goal

pub rows-preserved : goal.rows-preserved
rows-preserved c = grind (arith, common_steps)

pub returns-then-not-is_same_row : goal.returns-then-not-is_same_row
returns-then-not-is_same_row c = grind (arith, common_steps)
