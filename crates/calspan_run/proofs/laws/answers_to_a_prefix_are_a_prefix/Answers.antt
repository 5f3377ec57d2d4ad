use Rattle.calspan_run.proofs.AnswerLemmas.{span_prefix}
use Rattle.calspan_run.proofs.laws.answers_to_a_prefix_are_a_prefix.Goals as goal

pub returns : goal.returns
returns c = span_prefix
