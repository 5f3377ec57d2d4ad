use Rattle.std.proofs.Common.{arith}
use Rattle.std.proofs.lemmas.Grind.{common_steps}
use Rattle.reply_texts.proofs.text.push_about.Goals as goal

pub returns : goal.returns
returns c = grind (arith, common_steps)

pub push-requires-2 : goal.push-requires-2
push-requires-2 c = grind (arith, common_steps)

pub push-requires : goal.push-requires
push-requires c = grind (arith, common_steps)

pub push_all-requires-2 : goal.push_all-requires-2
push_all-requires-2 c = grind (arith, common_steps)

pub push_number-requires : goal.push_number-requires
push_number-requires c = grind (arith, common_steps)
