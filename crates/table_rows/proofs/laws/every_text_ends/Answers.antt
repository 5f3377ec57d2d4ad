use Rattle.table_rows.proofs.RowLineLemmas.{rows_end}
use Rattle.table_rows.proofs.laws.every_text_ends.Goals as goal

pub returns : goal.returns
returns c = rows_end
