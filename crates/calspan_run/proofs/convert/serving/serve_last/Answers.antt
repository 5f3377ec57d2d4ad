use Rattle.std.proofs.Common.{[], false, inr, refl, arith, subst}
use Rattle.cal_tables.specs.Kinds.{TableContents}
use Rattle.table_rows.specs.RowsSaid.{rows_said}
use Rattle.command_line.specs.ConvertSaid.{convert_said}
use Rattle.calspan_run.specs.Streaming.{convert_rules}
use Rattle.calspan_run.proofs.ConvertRunLemmas.{Ends, ends_stream, is_end, last_answered, last_refused}
use Rattle.calspan_run.proofs.WriterLemmas.{text_begins}
use Rattle.calspan_run.proofs.convert.serving.serve_last.Goals as goal

pub returns-in-Err : goal.returns-in-Err
returns-in-Err g c left now faults reads met =
    let a = convert_said c.args.words in
    ends_stream (convert_rules a) left now _ _ faults reads _ _ _ _ (last_refused a (rows_said c.args.rows.now) left now _ met c.in-Err.refusal.table c.in-Err.refusal.fault c.in-Err.ensures) c.refuse_table.result _ (inr (inr refl)) (omega arith) c.refuse_table.ensures

pub returns : goal.returns
returns g c left now faults reads met =
    let a = convert_said c.args.words in
    ends_stream (convert_rules a) left now _ _ faults reads _ _ _ _ (last_answered a (rows_said c.args.rows.now) left now _ met c.in-Ok.ensures.0) c.finish.result _ (is_end _) (omega arith)
    (subst (λ (t : TableContents). Ends a t c.finish.result false (g.K.Sink.taken c.args.sink.now) (g.K.Sink.taken c.finish.new.sink) (g.K.Sink.faults c.args.sink.now) (g.K.Sink.faults c.finish.new.sink) [] met.whole) c.in-Ok.ensures.1
    (c.finish.ensures (g.K.Sink.taken c.args.sink.now) [] met.whole met.holds (text_begins (g.K.Sink.taken c.args.sink.now) _ c.new-pending.ensures)))
