use Rattle.std.proofs.Common.{arith}
use Rattle.line_faults.proofs.WalkLemmas.{few_words}
use Rattle.line_faults.proofs.faults.line_fault.Goals as goal

pub overflow_add-count : goal.overflow_add-count
overflow_add-count c = omega (arith, c.words.invariant.1, few_words c.args.text.now, c.type_inv.text)

pub overflow_add-result : goal.overflow_add-result
overflow_add-result c = omega (arith, c.words.invariant.1, few_words c.args.text.now, c.type_inv.text)
