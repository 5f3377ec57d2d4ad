use Rattle.std.proofs.Common.{sym, ◌∙◌}
use Rattle.table_rows.specs.RowsSaid.{rows_said}
use Rattle.table_rows.proofs.GatheringLemmas.{said_gathered}
use Rattle.table_rows.proofs.gathering.gather_line.Goals as goal

pub returns-else-is_silent : goal.returns-else-is_silent
returns-else-is_silent c whole holds =
    said_gathered c.gather_said.result whole (rows_said c.args.rows.now) (rows_said c.gather_said.new.rows) (c.gather_said.ensures whole holds (sym (c.is_silent.ensures whole holds) ∙ c.if-is_silent.false))
