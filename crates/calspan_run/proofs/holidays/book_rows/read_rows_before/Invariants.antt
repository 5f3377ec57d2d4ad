use Rattle.std.specs.Prelude.{length}
use Rattle.table_rows.specs.RowsSaid.{rows_said}
use Rattle.calspan_run.specs.BookRows.{HasHead}
use Rattle.calspan_run.proofs.holidays.book_rows.read_rows_before.Given as goal

abbrev pub invariant-lines : goal.invariant-lines
invariant-lines l = HasHead l.bytes (rows_said l.rows) l.rest l.number

abbrev pub decreases-lines : goal.decreases-lines
decreases-lines l = length l.rest
