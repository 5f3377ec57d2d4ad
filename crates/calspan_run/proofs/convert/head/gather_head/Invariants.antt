use Rattle.std.specs.Prelude.{ℕ, ◌-◌, ◌≤◌, List, Option}
use Rattle.table_rows.specs.RowsSaid.{rows_said}
use Rattle.calspan_run.specs.Heading.{IsHeading}
use Rattle.calspan_run.proofs.convert.head.gather_head.Given as goal

abbrev pub invariant-chunks : goal.invariant-chunks
invariant-chunks g l = record {
  heading : (left : Option (List ℕ)) → IsHeading left (g.S.Source.left l.fn.source) l.fn.reader l.fn.line (rows_said l.fn.rows) 0 0 → IsHeading left (g.S.Source.left l.source) l.reader l.line (rows_said l.rows) l.number l.reads;
  later : g.S.Source.faults l.fn.source ≤ g.S.Source.faults l.source;
}

abbrev pub decreases-chunks : goal.decreases-chunks
decreases-chunks g l = 18446744073709551615 - l.reads
