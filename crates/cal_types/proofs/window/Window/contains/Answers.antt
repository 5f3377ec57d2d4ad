use Rattle.std.proofs.Common.{arith}
use Rattle.std.proofs.lemmas.Int.{ints}
use Rattle.cal_types.proofs.window.Window.contains.Goals as goal

pub returns-then-self-day : goal.returns-then-self-day
returns-then-self-day c = grind (arith, ints)

pub returns-else-self-day : goal.returns-else-self-day
returns-else-self-day c = grind (arith, ints)
