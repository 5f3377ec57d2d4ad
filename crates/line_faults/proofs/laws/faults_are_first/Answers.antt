use Rattle.line_faults.proofs.FirstFaultLemmas.{first_faults}
use Rattle.line_faults.proofs.laws.faults_are_first.Goals as goal

pub returns : goal.returns
returns c = first_faults
