use Rattle.calspan_run.proofs.ConvertLawLemmas.{conversions_prefix}
use Rattle.calspan_run.proofs.laws.conversions_of_a_prefix_are_a_prefix.Goals as goal

pub returns : goal.returns
returns c asked = conversions_prefix asked
