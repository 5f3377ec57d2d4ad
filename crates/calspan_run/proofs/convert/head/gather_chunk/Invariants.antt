use Rattle.std.specs.Prelude.{ℕ, List, Option}
use Rattle.long_lines.specs.Reader.{bytes_left}
use Rattle.table_rows.specs.RowsSaid.{rows_said}
use Rattle.calspan_run.specs.Heading.{IsHeading}
use Rattle.calspan_run.proofs.convert.head.gather_chunk.Given as goal

abbrev pub invariant-lines : goal.invariant-lines
invariant-lines l = (left now : Option (List ℕ)) (reads : ℕ) → IsHeading left now l.fn.reader l.fn.line (rows_said l.fn.rows) l.fn.number reads
    → IsHeading left now l.reader l.line (rows_said l.rows) l.number reads

abbrev pub decreases-lines : goal.decreases-lines
decreases-lines l = bytes_left l.reader
