use Rattle.std.proofs.Common.{inr, refl, arith}
use Rattle.calspan_run.specs.Rules.{span_rules}
use Rattle.calspan_run.specs.TableTexts.{row_refusal}
use Rattle.calspan_run.specs.declared.status.Status.TheVariants.{TableRefused}
use Rattle.calspan_run.proofs.UnderwayLemmas.{row_refused, span_stopped}
use Rattle.std.proofs.KnownBytes.{Consumes-nil}
use Rattle.calspan_run.proofs.EndLemmas.{ends_serve}
use Rattle.table_rows.proofs.GatheringLemmas.{gathering_begins}
use Rattle.calspan_run.proofs.AnswerLemmas.{span_lasts}
use Rattle.calspan_run.proofs.span.serving.serve_span.Goals as goal

pub returns-in-Request : goal.returns-in-Request
returns-in-Request g c =
    let left = g.S.Source.left c.args.source.now in
    let start = gathering_begins left _ _ _ c.new-reader.ensures.at c.new-line.ensures c.new-reader.ensures.lines (Consumes-nil left) c.new-rows.ensures in
    c.serve_requests.ensures _ _ c.in-Request.ensures.later (c.in-Request.ensures.gathers left (g.S.Source.faults c.args.source.now) (omega arith) start)

pub returns-in-LastRequest : goal.returns-in-LastRequest
returns-in-LastRequest g c =
    let left = g.S.Source.left c.args.source.now in
    let start = gathering_begins left _ _ _ c.new-reader.ensures.at c.new-line.ensures c.new-reader.ensures.lines (Consumes-nil left) c.new-rows.ensures in
    c.serve_last.ensures _ _ _ _ _ c.lines.ensures.value (c.in-LastRequest.ensures.gathers left (g.S.Source.faults c.args.source.now) (omega arith) start)

pub returns-in-End : goal.returns-in-End
returns-in-End g c =
    let left = g.S.Source.left c.args.source.now in
    let start = gathering_begins left _ _ _ c.new-reader.ensures.at c.new-line.ensures c.new-reader.ensures.lines (Consumes-nil left) c.new-rows.ensures in
    c.serve_none.ensures _ _ _ _ (c.in-End.ensures.gathers left (g.S.Source.faults c.args.source.now) (omega arith) start)

pub returns-in-Refused : goal.returns-in-Refused
returns-in-Refused g c =
    let left = g.S.Source.left c.args.source.now in
    let start = gathering_begins left _ _ _ c.new-reader.ensures.at c.new-line.ensures c.new-reader.ensures.lines (Consumes-nil left) c.new-rows.ensures in
    ends_serve span_rules span_lasts left _ _ _ _ _ _ _ (row_refusal c.in-Refused.number c.in-Refused.why) TableRefused
    (row_refused left _ c.in-Refused.number c.in-Refused.why (c.in-Refused.ensures.gathers left (g.S.Source.faults c.args.source.now) (omega arith) start)) c.refuse_row.result (inr (inr refl)) c.refuse_row.ensures

pub returns : goal.returns
returns g c =
    let left = g.S.Source.left c.args.source.now in
    let start = gathering_begins left _ _ _ c.new-reader.ensures.at c.new-line.ensures c.new-reader.ensures.lines (Consumes-nil left) c.new-rows.ensures in
    span_stopped left _ _ _ _ _ c.status_of_stop.result c.in-Stopped.stop c.status_of_stop.ensures (c.in-Stopped.ensures.gathers left (g.S.Source.faults c.args.source.now) (omega arith) start)
