use Rattle.request_lines.proofs.FormLemmas.{one_form}
use Rattle.request_lines.proofs.laws.requests_have_one_form.Goals as goal

pub returns : goal.returns
returns c = one_form
