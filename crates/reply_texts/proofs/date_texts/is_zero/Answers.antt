use Rattle.std.proofs.Common.{arith}
use Rattle.std.proofs.lemmas.Grind.{common_steps}
use Rattle.reply_texts.proofs.date_texts.is_zero.Goals as goal

pub returns-then-duration-eq0-3 : goal.returns-then-duration-eq0-3
returns-then-duration-eq0-3 c = grind (arith, common_steps)
