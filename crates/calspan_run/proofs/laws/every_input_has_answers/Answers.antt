use Rattle.calspan_run.proofs.AnswerLemmas.{span_exists}
use Rattle.calspan_run.proofs.laws.every_input_has_answers.Goals as goal

pub returns : goal.returns
returns c = span_exists
