use Rattle.row_faults.proofs.YearLemmas.{faults_exact as proved}
use Rattle.row_faults.proofs.laws.faults_are_missing_years.Goals as goal

pub returns : goal.returns
returns c = proved
