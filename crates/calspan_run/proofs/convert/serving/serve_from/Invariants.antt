use Rattle.std.specs.Prelude.{◌≡◌, ◌-◌}
use Rattle.cal_tables.specs.Kinds.{table_contents}
use Rattle.table_rows.specs.TableRows.{TableRows, contents_of}
use Rattle.command_line.specs.ConvertSaid.{convert_said}
use Rattle.calspan_run.specs.Converting.{IsConverting}
use Rattle.calspan_run.specs.Run.{Outside, outside}
use Rattle.calspan_run.proofs.convert.serving.serve_from.Given as goal

abbrev pub invariant-chunks : goal.invariant-chunks
invariant-chunks g l = (old : Outside) (rows : TableRows) → table_contents l.fn.conversion.tables ≡ contents_of rows
    → IsConverting (convert_said l.fn.conversion.words) rows old (outside (g.S.Source.left l.fn.source) (g.K.Sink.taken l.fn.sink) (g.S.Source.faults l.fn.source) (g.K.Sink.faults l.fn.sink)) l.fn.reader l.fn.line l.fn.pending.items l.fn.was_bad 0
    → IsConverting (convert_said l.fn.conversion.words) rows old (outside (g.S.Source.left l.source) (g.K.Sink.taken l.sink) (g.S.Source.faults l.source) (g.K.Sink.faults l.sink)) l.reader l.line l.pending.items l.is_bad l.reads

abbrev pub decreases-chunks : goal.decreases-chunks
decreases-chunks g l = 18446744073709551615 - l.reads
