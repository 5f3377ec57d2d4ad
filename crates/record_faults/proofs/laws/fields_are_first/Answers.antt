use Rattle.record_faults.proofs.FirstFieldLemmas.{faults_first}
use Rattle.record_faults.proofs.laws.fields_are_first.Goals as goal

pub returns : goal.returns
returns c = faults_first
