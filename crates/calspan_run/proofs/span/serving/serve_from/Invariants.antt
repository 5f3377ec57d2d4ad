use Rattle.std.specs.Prelude.{◌≡◌}
use Rattle.byte_io.specs.Reader.{turns_left}
use Rattle.cal_tables.specs.Kinds.{table_contents}
use Rattle.calspan_run.specs.Underway.{IsUnderway}
use Rattle.calspan_run.specs.Run.{Outside, outside}
use Rattle.calspan_run.specs.Answers.{Answering}
use Rattle.table_rows.specs.TableRows.{TableRows, contents_of}
use Rattle.calspan_run.proofs.span.serving.serve_from.Given as goal

abbrev pub invariant-lines : goal.invariant-lines
invariant-lines g l = (old : Outside) (rows : TableRows) → table_contents l.fn.tables ≡ contents_of rows
    → IsUnderway old (outside (g.S.Source.left l.fn.source) (g.K.Sink.taken l.fn.sink) (g.S.Source.faults l.fn.source) (g.K.Sink.faults l.fn.sink)) l.fn.reader l.fn.line l.fn.pending.items rows (Answering l.fn.start.refused)
    → IsUnderway old (outside (g.S.Source.left l.source) (g.K.Sink.taken l.sink) (g.S.Source.faults l.source) (g.K.Sink.faults l.sink)) l.reader l.line l.pending.items rows (Answering l.progress.refused)

abbrev pub decreases-lines : goal.decreases-lines
decreases-lines g l = turns_left l.reader
