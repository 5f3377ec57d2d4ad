use Rattle.std.proofs.Common.{[], Bool, false, inr, refl, subst}
use Rattle.byte_io.specs.Reader.{lines_given}
use Rattle.request_lines.specs.Lines.{line_of}
use Rattle.calspan_run.specs.Progress.{standing_of}
use Rattle.table_rows.specs.RowsSaid.{rows_said}
use Rattle.calspan_run.specs.Rules.{span_rules}
use Rattle.calspan_run.specs.Run.{outside}
use Rattle.calspan_run.specs.Answers.{Answering, IsAnswerTo}
use Rattle.table_rows.specs.TableRows.{contents_of}
use Rattle.calspan_run.specs.TableTexts.{table_refusal}
use Rattle.calspan_run.specs.declared.span.answers.Answered.{Answered}
use Rattle.calspan_run.specs.declared.status.Status.TheVariants.{TableRefused}
use Rattle.calspan_run.proofs.UnderwayLemmas.{request_refused, nothing_short, underway, first_ends, ends_from}
use Rattle.calspan_run.proofs.EndLemmas.{ends_serve}
use Rattle.table_rows.proofs.GatheringLemmas.{met_line}
use Rattle.calspan_run.proofs.AnswerLemmas.{span_lasts}
use Rattle.calspan_run.proofs.WriterLemmas.{text_begins}
use Rattle.calspan_run.proofs.span.serving.serve_requests.Goals as goal

pub returns-in-Err : goal.returns-in-Err
returns-in-Err g c before faults later h =
    let n = lines_given c.args.reader.now in
    let met = met_line before _ c.args.reader.now c.args.line.now (rows_said c.args.rows.now) n refl h in
    ends_serve span_rules span_lasts before _ _ _ faults _ _ _ (table_refusal c.in-Err.refusal.table c.in-Err.refusal.fault) TableRefused
    (request_refused before _ n h.request (rows_said c.args.rows.now) c.in-Err.refusal.table c.in-Err.refusal.fault met c.in-Err.ensures) c.refuse_table.result (inr (inr refl)) c.refuse_table.ensures

pub returns-in-Ok-GoesOn : goal.returns-in-Ok-GoesOn
returns-in-Ok-GoesOn g c before faults later h =
    let rows = rows_said c.args.rows.now in
    let t = g.K.Sink.taken c.args.sink.now in
    let n = c.lines-number.result in
    let (added, answer, on) = c.in-Ok-GoesOn.ensures.answered t [] h.whole rows c.in-Ok.ensures.1 h.holds (text_begins t c.new-pending.result.items c.new-pending.ensures) in
    let first = subst (λ (b : Bool). IsAnswerTo (line_of h.whole) (contents_of rows) n (Answering b) added (standing_of c.in-Ok-GoesOn.field-0)) c.new.ensures answer in
    let next = subst (λ (a : Answered). IsAnswerTo (line_of h.whole) (contents_of rows) n (Answering false) added (standing_of a)) c.in-Ok-GoesOn.field-0-is first in
    c.serve_from.ensures (outside before t faults (g.K.Sink.faults c.args.sink.now)) rows c.in-Ok.ensures.1
    (underway before _ c.args.reader.now c.args.line.now rows c.in-Ok.ensures.0 t _ faults _ _ _ _ _ added n c.in-Ok-GoesOn.progress.refused later c.in-Ok-GoesOn.ensures.cause.later c.lines-number.ensures.value h c.clear.ensures next on)

pub returns-in-Ok-Stopped : goal.returns-in-Ok-Stopped
returns-in-Ok-Stopped g c before faults later h =
    let rows = rows_said c.args.rows.now in
    let t = g.K.Sink.taken c.args.sink.now in
    let n = c.lines-number.result in
    let (added, answer, on) = c.in-Ok-Stopped.ensures.answered t [] h.whole rows c.in-Ok.ensures.1 h.holds (text_begins t c.new-pending.result.items c.new-pending.ensures) in
    let first = subst (λ (b : Bool). IsAnswerTo (line_of h.whole) (contents_of rows) n (Answering b) added (standing_of c.in-Ok-Stopped.field-0)) c.new.ensures answer in
    let ended = subst (λ (a : Answered). IsAnswerTo (line_of h.whole) (contents_of rows) n (Answering false) added (standing_of a)) c.in-Ok-Stopped.field-0-is first in
    ends_serve span_rules span_lasts before _ t _ faults _ _ _ added TableRefused
    (first_ends before _ c.args.reader.now c.args.line.now rows c.in-Ok.ensures.0 added n c.lines-number.ensures.value h ended) c.conclude.result (inr (inr refl))
    (ends_from _ TableRefused TableRefused t _ _ _ _ added refl c.in-Ok-Stopped.ensures.cause.later (c.conclude.ensures t added on))

pub returns-in-Err-respond : goal.returns-in-Err-respond
returns-in-Err-respond g c before faults later h =
    let t = g.K.Sink.taken c.args.sink.now in
    nothing_short before _ t _ faults _ _ _ h.bytes h.took c.in-Err-respond.ensures.cause.failed
    (c.in-Err-respond.ensures.answered t [] h.whole (rows_said c.args.rows.now) c.in-Ok.ensures.1 h.holds (text_begins t c.new-pending.result.items c.new-pending.ensures))
