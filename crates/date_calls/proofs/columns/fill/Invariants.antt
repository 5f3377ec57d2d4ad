use Rattle.std.proofs.Common.{◌≡◌, ℕ, ◌≤◌, get_or}
use Rattle.date_calls.specs.Columns.{AtBelow}
use Rattle.date_calls.proofs.columns.fill.Given as goal

abbrev pub invariant-loop-place : goal.invariant-loop-place
invariant-loop-place g l = record {
  done : AtBelow (g.Q.ColumnCall.single l.call (g.C.Calendar.system l.calendar)) l.place l.initial.outputs l.outputs l.codes;
  rest : (k : ℕ) (o : _) → l.place ≤ k → get_or l.outputs k o ≡ get_or l.initial.outputs k o;
}
