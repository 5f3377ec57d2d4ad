use Rattle.command_line.proofs.FirstFaultLemmas.{first_faults}
use Rattle.command_line.proofs.laws.faults_are_first.Goals as goal

pub returns : goal.returns
returns c = first_faults
