use Rattle.std.proofs.Common.{◌≤◌, ◌++◌, ℕ, List, Option}
use Rattle.calspan_run.specs.TextSoFar.{TextSoFar, lines_text}
use Rattle.calspan_run.proofs.writer.push_lines.Given as goal

-- the lines of the items so far are pushed
abbrev pub invariant-loop-item : goal.invariant-loop-item
invariant-loop-item g l = record {
  can : (goal.iterator-loop-item g).can_next l.item-iterator;
  finite : (goal.iterator-loop-item g).is_finite l.item-iterator;
  text : (before : Option (List ℕ)) (text : List ℕ) → TextSoFar before (g.K.Sink.taken l.initial.sink) l.initial.pending.items text
      → TextSoFar before (g.K.Sink.taken l.sink) l.pending.items (text ++ lines_text (g.L.ItemLines.line_of l.lines) l.yielded);
  later : g.K.Sink.faults l.initial.sink ≤ g.K.Sink.faults l.sink;
}
