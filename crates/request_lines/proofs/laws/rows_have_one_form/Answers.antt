use Rattle.request_lines.proofs.RowFormLemmas.{one_form}
use Rattle.request_lines.proofs.laws.rows_have_one_form.Goals as goal

pub returns : goal.returns
returns c = one_form
