use Rattle.table_rows.proofs.RowUniqueLemmas.{rows_end-unique}
use Rattle.table_rows.proofs.laws.ends_are_unique.Goals as goal

pub returns : goal.returns
returns c = rows_end-unique
