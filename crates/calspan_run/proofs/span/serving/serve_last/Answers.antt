use Rattle.std.proofs.Common.{◌+◌, [], Bool, inr, refl, ap, subst}
use Rattle.byte_io.specs.Lines.{open_line}
use Rattle.byte_io.specs.Reader.{lines_given}
use Rattle.request_lines.specs.Lines.{line_of}
use Rattle.calspan_run.specs.Progress.{answered_status, standing_of}
use Rattle.table_rows.specs.RowsSaid.{rows_said}
use Rattle.calspan_run.specs.Rules.{span_rules}
use Rattle.calspan_run.specs.Answers.{Answering, IsAnswerTo, status_at}
use Rattle.table_rows.specs.TableRows.{contents_of}
use Rattle.calspan_run.specs.TableTexts.{table_refusal}
use Rattle.calspan_run.specs.declared.status.Status.TheVariants.{TableRefused}
use Rattle.calspan_run.proofs.UnderwayLemmas.{request_refused, nothing_short, last_ends, ends_from, standing_status, status_is_end}
use Rattle.calspan_run.proofs.EndLemmas.{ends_serve}
use Rattle.table_rows.proofs.GatheringLemmas.{met_last_line}
use Rattle.calspan_run.proofs.AnswerLemmas.{span_lasts}
use Rattle.calspan_run.proofs.WriterLemmas.{text_begins}
use Rattle.calspan_run.proofs.span.serving.serve_last.Goals as goal

pub returns-in-Err : goal.returns-in-Err
returns-in-Err g c before left faults reads reader is h =
    let n = lines_given reader + 1 in
    let met = met_last_line before left reader c.args.line.now (rows_said c.args.rows.now) n refl h in
    ends_serve span_rules span_lasts before left _ _ faults reads _ _ (table_refusal c.in-Err.refusal.table c.in-Err.refusal.fault) TableRefused
    (request_refused before left n h.request (rows_said c.args.rows.now) c.in-Err.refusal.table c.in-Err.refusal.fault met c.in-Err.ensures) c.refuse_table.result (inr (inr refl)) c.refuse_table.ensures

pub returns-in-Ok-respond : goal.returns-in-Ok-respond
returns-in-Ok-respond g c before left faults reads reader is h =
    let rows = rows_said c.args.rows.now in
    let t = g.K.Sink.taken c.args.sink.now in
    let s = standing_of c.in-Ok-respond.answered in
    let last = open_line h.bytes in
    let (added, answer, on) = c.in-Ok-respond.ensures.answered t [] last rows c.in-Ok.ensures.1 h.holds (text_begins t c.new-pending.result.items c.new-pending.ensures) in
    let first = subst (λ (b : Bool). IsAnswerTo (line_of last) (contents_of rows) (c.args.lines + 1) (Answering b) added s) c.new.ensures answer in
    ends_serve span_rules span_lasts before left t _ faults reads _ _ added (status_at s)
    (last_ends before left reader c.args.line.now rows c.in-Ok.ensures.0 added (c.args.lines + 1) s (ap (λ k. k + 1) is) h first) c.conclude.result (status_is_end s)
    (ends_from _ (answered_status c.in-Ok-respond.answered) (status_at s) t _ _ _ _ added (standing_status c.in-Ok-respond.answered) c.in-Ok-respond.ensures.cause.later (c.conclude.ensures t added on))

pub returns-in-Err-respond : goal.returns-in-Err-respond
returns-in-Err-respond g c before left faults reads reader is h =
    let t = g.K.Sink.taken c.args.sink.now in
    nothing_short before left t _ faults reads _ _ h.bytes h.took c.in-Err-respond.ensures.cause.failed
    (c.in-Err-respond.ensures.answered t [] (open_line h.bytes) (rows_said c.args.rows.now) c.in-Ok.ensures.1 h.holds (text_begins t c.new-pending.result.items c.new-pending.ensures))
