use Rattle.cal_types.proofs.SpanLemmas.{span-exists}
use Rattle.cal_types.proofs.span_laws.two_bags_have_an_answer.Goals as goal

pub returns : goal.returns
returns c = span-exists
