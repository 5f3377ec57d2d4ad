use Rattle.std.specs.Prelude.{ℕ, ◌≤◌, List, Option}
use Rattle.byte_io.specs.Reader.{turns_left}
use Rattle.table_rows.specs.RowsSaid.{rows_said}
use Rattle.table_rows.specs.Gathering.{IsGathering}
use Rattle.table_rows.proofs.gathering.gather.Given as goal

abbrev pub invariant-lines : goal.invariant-lines
invariant-lines g l = record {
  gathering : (left : Option (List ℕ)) → IsGathering left (g.S.Source.left l.fn.source) l.fn.reader l.fn.line (rows_said l.fn.rows) → IsGathering left (g.S.Source.left l.source) l.reader l.line (rows_said l.rows);
  later : g.S.Source.faults l.fn.source ≤ g.S.Source.faults l.source;
}

abbrev pub decreases-lines : goal.decreases-lines
decreases-lines g l = turns_left l.reader
