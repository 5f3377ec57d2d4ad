use Rattle.table_rows.proofs.TableLemmas.{tables_decided, tables_refuse, tables_unique}
use Rattle.table_rows.proofs.laws.tables_are_decided.Goals as goal

pub returns : goal.returns
returns c = record { decided = tables_decided; not_both = tables_refuse; one = tables_unique }
