use Rattle.std.proofs.Common.{◌≡◌, ◌++◌, [], inr, refl, arith, subst}
use Rattle.cal_tables.specs.Kinds.{TableContents}
use Rattle.table_rows.specs.RowsSaid.{rows_said}
use Rattle.command_line.specs.ConvertSaid.{convert_said}
use Rattle.calspan_run.specs.Converted.{line_answer}
use Rattle.calspan_run.specs.Run.{outside}
use Rattle.calspan_run.specs.TextSoFar.{TextSoFar}
use Rattle.calspan_run.specs.Written.{WrotePrefix}
use Rattle.calspan_run.specs.Streaming.{convert_rules}
use Rattle.calspan_run.proofs.ConvertRunLemmas.{ends_stream, first_answered, first_refused, first_stopped}
use Rattle.calspan_run.proofs.WriterLemmas.{text_begins}
use Rattle.calspan_run.proofs.convert.serving.serve_dates.Goals as goal

pub returns-in-Err : goal.returns-in-Err
returns-in-Err g c left faults later met =
    let a = convert_said c.args.words in
    ends_stream (convert_rules a) left _ _ _ faults _ _ _ _ _ (first_refused a (rows_said c.args.rows.now) left _ _ _ met c.in-Err.refusal.table c.in-Err.refusal.fault c.in-Err.ensures) c.refuse_table.result _ (inr (inr refl)) (omega arith) c.refuse_table.ensures

pub returns-in-Ok-answer_line : goal.returns-in-Ok-answer_line
returns-in-Ok-answer_line g c left faults later met =
    let a = convert_said c.args.words in
    let rows = rows_said c.args.rows.now in
    let (is, so_far) = subst (λ (t : TableContents). (c.in-Ok-answer_line.is_bad ≡ (line_answer a t met.whole).1) × TextSoFar (g.K.Sink.taken c.args.sink.now) (g.K.Sink.taken c.answer_line.new.sink) c.answer_line.new.pending.items ([] ++ (line_answer a t met.whole).0)) c.in-Ok.ensures.1
    (c.in-Ok-answer_line.ensures.answered (g.K.Sink.taken c.args.sink.now) [] met.whole met.holds (text_begins (g.K.Sink.taken c.args.sink.now) _ c.new-pending.ensures)) in
    c.serve_from.ensures (outside left (g.K.Sink.taken c.args.sink.now) faults (g.K.Sink.faults c.args.sink.now)) rows c.in-Ok.ensures.1
    (first_answered a rows left _ _ _ met c.in-Ok.ensures.0 _ _ faults _ _ _ _ _ _ later c.in-Ok-answer_line.ensures.cause.later is so_far c.clear.ensures)

pub returns-in-Err-answer_line : goal.returns-in-Err-answer_line
returns-in-Err-answer_line g c left faults later met =
    let a = convert_said c.args.words in
    let rows = rows_said c.args.rows.now in
    first_stopped a rows left _ _ _ met c.in-Ok.ensures.0 (g.K.Sink.taken c.args.sink.now) _ faults _ _ _ c.in-Err-answer_line.ensures.cause.failed
    (subst (λ (t : TableContents). WrotePrefix (g.K.Sink.taken c.args.sink.now) (g.K.Sink.taken c.answer_line.new.sink) ([] ++ (line_answer a t met.whole).0)) c.in-Ok.ensures.1
    (c.in-Err-answer_line.ensures.answered (g.K.Sink.taken c.args.sink.now) [] met.whole met.holds (text_begins (g.K.Sink.taken c.args.sink.now) _ c.new-pending.ensures)))
