use Rattle.std.proofs.Common.{arith}
use Rattle.std.proofs.lemmas.Grind.{common_steps}
use Rattle.reply_texts.proofs.date_texts.push_month.Goals as goal

pub push-requires-then-is_leap : goal.push-requires-then-is_leap
push-requires-then-is_leap c = grind (arith, common_steps)

pub returns-then-is_leap-clause-len : goal.returns-then-is_leap-clause-len
returns-then-is_leap-clause-len c = grind (arith, common_steps)

pub returns-else-is_leap-clause-len : goal.returns-else-is_leap-clause-len
returns-else-is_leap-clause-len c = grind (arith, common_steps)

pub returns-then-is_leap-clause-items : goal.returns-then-is_leap-clause-items
returns-then-is_leap-clause-items c = grind (arith, common_steps)

pub returns-else-is_leap-clause-items : goal.returns-else-is_leap-clause-items
returns-else-is_leap-clause-items c = grind (arith, common_steps)
