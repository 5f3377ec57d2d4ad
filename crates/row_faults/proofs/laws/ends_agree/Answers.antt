use Rattle.row_faults.proofs.AgreementLemmas.{ends_agree as proved}
use Rattle.row_faults.proofs.laws.ends_agree.Goals as goal

pub returns : goal.returns
returns c = proved
