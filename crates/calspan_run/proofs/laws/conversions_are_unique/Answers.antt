use Rattle.calspan_run.proofs.ConvertLawLemmas.{conversions_unique}
use Rattle.calspan_run.proofs.laws.conversions_are_unique.Goals as goal

pub returns : goal.returns
returns c asked = conversions_unique asked
