use Rattle.cal_types.proofs.SpanLemmas.{span-unique}
use Rattle.cal_types.proofs.span_laws.answers_are_unique.Goals as goal

pub returns : goal.returns
returns c = span-unique
