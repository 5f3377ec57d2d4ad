use Rattle.std.proofs.Common.{arith}
use Rattle.std.proofs.lemmas.Grind.{common_steps}
use Rattle.cal_any.proofs.any_calendar.AnyDateInnerPartialEq.eq.Goals as goal

pub returns-in_default : goal.returns-in_default
returns-in_default c = grind (arith, common_steps)

pub returns-in-Some-Equal : goal.returns-in-Some-Equal
returns-in-Some-Equal c = grind (arith, common_steps)
