use Rattle.byte_io.specs.Reader.{turns_left}
use Rattle.calspan_run.specs.Explaining.{IsExplaining}
use Rattle.calspan_run.specs.Run.{Outside, outside}
use Rattle.std.specs.Prelude.{false}
use Rattle.row_faults.specs.declared.stages.Stage.TheVariants.{Rows}
use Rattle.calspan_run.proofs.explain.serving.serve_from.Given as goal

abbrev pub invariant-lines : goal.invariant-lines
invariant-lines g l = (old : Outside)
    → IsExplaining old (outside (g.S.Source.left l.fn.source) (g.K.Sink.taken l.fn.sink) (g.S.Source.faults l.fn.source) (g.K.Sink.faults l.fn.sink)) l.fn.reader l.fn.line l.fn.pending.items false Rows
    → IsExplaining old (outside (g.S.Source.left l.source) (g.K.Sink.taken l.sink) (g.S.Source.faults l.source) (g.K.Sink.faults l.sink)) l.reader l.line l.pending.items l.is_malformed l.stage

abbrev pub decreases-lines : goal.decreases-lines
decreases-lines g l = turns_left l.reader
