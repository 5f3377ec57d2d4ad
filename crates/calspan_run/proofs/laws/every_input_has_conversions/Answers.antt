use Rattle.calspan_run.proofs.ConvertLawLemmas.{conversions_exist}
use Rattle.calspan_run.proofs.laws.every_input_has_conversions.Goals as goal

pub returns : goal.returns
returns c asked = conversions_exist asked
