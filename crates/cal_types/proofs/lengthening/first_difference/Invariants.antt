use Rattle.std.proofs.Common.{ℕ, ◌<◌}
use Rattle.std.specs.Prelude.{IsTrue}
use Rattle.cal_types.specs.Rows.{IsRow}
use Rattle.cal_types.specs.Lengthening.{stands_in}
use Rattle.cal_types.proofs.lengthening.first_difference.Given as goal

abbrev pub invariant-loop-index : goal.invariant-loop-index
invariant-loop-index g l = record {
  there : (i : ℕ) (row : g.row.Y.Denot) → i < l.index → IsRow l.old i row → IsTrue (stands_in g.Y.Row.equal l.fn.rows i row);
}
