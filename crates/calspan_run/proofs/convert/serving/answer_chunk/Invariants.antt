use Rattle.std.specs.Prelude.{◌≡◌, ℕ, List, Option}
use Rattle.cal_tables.specs.Kinds.{table_contents}
use Rattle.long_lines.specs.Reader.{bytes_left}
use Rattle.table_rows.specs.TableRows.{TableRows, contents_of}
use Rattle.command_line.specs.ConvertSaid.{convert_said}
use Rattle.calspan_run.specs.Converting.{IsConverting}
use Rattle.calspan_run.specs.Run.{Outside, outside}
use Rattle.calspan_run.proofs.convert.serving.answer_chunk.Given as goal

abbrev pub invariant-lines : goal.invariant-lines
invariant-lines g l = (old : Outside) (left : Option (List ℕ)) (faults reads : ℕ) (rows : TableRows) → table_contents l.fn.conversion.tables ≡ contents_of rows
    → IsConverting (convert_said l.fn.conversion.words) rows old (outside left (g.K.Sink.taken l.fn.sink) faults (g.K.Sink.faults l.fn.sink)) l.fn.reader l.fn.line l.fn.pending.items l.fn.was_bad reads
    → IsConverting (convert_said l.fn.conversion.words) rows old (outside left (g.K.Sink.taken l.sink) faults (g.K.Sink.faults l.sink)) l.reader l.line l.pending.items l.is_bad reads

abbrev pub decreases-lines : goal.decreases-lines
decreases-lines g l = bytes_left l.reader
