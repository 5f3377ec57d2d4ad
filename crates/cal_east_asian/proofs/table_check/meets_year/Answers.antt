use Rattle.std.proofs.Common.{arith}
use Rattle.std.proofs.lemmas.Grind.{common_steps}
use Rattle.cal_east_asian.proofs.table_check.meets_year.Goals as goal

pub returns-then-is_next-clause-year : goal.returns-then-is_next-clause-year
returns-then-is_next-clause-year c = grind (arith, common_steps)
