use Rattle.recurrence_sets.proofs.DayBitLemmas.{run-shifted}
use Rattle.recurrence_sets.proofs.day_bits.run_of_bits.Goals as goal

pub returns : goal.returns
returns c = λ i. run-shifted c.args.from c.args.to i c.requires.order c.requires.most
