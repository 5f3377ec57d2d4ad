use Rattle.std.proofs.Common.{arith, ap, length}
use Rattle.command_line.proofs.WordLemmas.{few_words}
use Rattle.command_line.proofs.faults.command_text_fault.Goals as goal

pub fault_of-requires : goal.fault_of-requires
fault_of-requires c = omega (arith, ap length c.of_text.ensures, few_words c.args.words.now)
