use Rattle.calspan_run.proofs.AnswerLemmas.{span_unique}
use Rattle.calspan_run.proofs.laws.answers_are_unique.Goals as goal

pub returns : goal.returns
returns c = span_unique
