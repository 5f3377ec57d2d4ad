use Rattle.row_faults.proofs.AgreementLemmas.{row_lines_agree as proved}
use Rattle.row_faults.proofs.laws.row_lines_agree.Goals as goal

pub returns : goal.returns
returns c = proved
