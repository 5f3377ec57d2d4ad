use Rattle.std.proofs.Common.{arith}
use Rattle.std.proofs.lemmas.Grind.{common_steps}
use Rattle.reply_texts.proofs.date_texts.push_year.Goals as goal

pub returns-in-Era-clause-items : goal.returns-in-Era-clause-items
returns-in-Era-clause-items c = grind (arith, common_steps)

pub returns-in-Cyclic-clause-items : goal.returns-in-Cyclic-clause-items
returns-in-Cyclic-clause-items c = grind (arith, common_steps)

pub returns-in-Era-clause-len : goal.returns-in-Era-clause-len
returns-in-Era-clause-len c = grind (arith, common_steps)

pub push_year_number-requires : goal.push_year_number-requires
push_year_number-requires c = grind (arith, common_steps)

pub push-requires : goal.push-requires
push-requires c = grind (arith, common_steps)

pub returns-in-Cyclic-clause-len : goal.returns-in-Cyclic-clause-len
returns-in-Cyclic-clause-len c = grind (arith, common_steps)

pub push_number-requires : goal.push_number-requires
push_number-requires c = grind (arith, common_steps)
