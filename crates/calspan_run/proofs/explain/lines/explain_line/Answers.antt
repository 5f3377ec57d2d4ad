use Rattle.std.proofs.Common.{true, false, refl, sym, subst, ◌∙◌}
use Rattle.calspan_run.specs.Converted.{Answer}
use Rattle.calspan_run.specs.Converting.{AnsweredLine}
use Rattle.calspan_run.specs.Explained.{long_text}
use Rattle.request_lines.specs.Lines.{line_of}
use Rattle.calspan_run.proofs.ConvertAnswerLemmas.{answered_as, answered_err}
use Rattle.calspan_run.proofs.ExplainAnswerLemmas.{long_line, short_line, silent_line, silent_so_far, whole_text}
use Rattle.calspan_run.proofs.WriterLemmas.{short_more, text_more}
use Rattle.calspan_run.proofs.explain.lines.explain_line.Goals as goal

pub returns-in_err-make_room-clause-answered : goal.returns-in_err-make_room-clause-answered
returns-in_err-make_room-clause-answered g c before text whole holds h =
    answered_err c.from_residual.result before _ _ text _ c.from_residual.ensures.0 (short_more before _ text _ (c.in_err-make_room.ensures.text before text h))

pub returns-then-is_silent-clause-answered : goal.returns-then-is_silent-clause-answered
returns-then-is_silent-clause-answered g c before text whole holds h =
    let e = silent_line c.args.stage c.args.number whole (sym (c.is_silent.ensures whole holds) ∙ c.if-is_silent.true) in
    answered_as before _ _ text false _ _ e refl (silent_so_far before _ _ text (c.in_ok-make_room.ensures.text before text h))

pub returns-then-line-clause-answered : goal.returns-then-line-clause-answered
returns-then-line-clause-answered g c before text whole holds h =
    let e = long_line c.args.stage c.args.number whole (sym (c.is_silent.ensures whole holds) ∙ c.if-is_silent.false) (sym holds.over ∙ c.if-line.true) in
    answered_as before _ _ text true _ _ e refl (text_more before _ c.make_room.new.pending.items (long_text c.args.number) c.push_long.new.text.items text (c.in_ok-make_room.ensures.text before text h) c.push_long.ensures)

pub returns-clause-answered : goal.returns-clause-answered
returns-clause-answered g c before text whole holds h =
    let loud = sym (c.is_silent.ensures whole holds) ∙ c.if-is_silent.false in
    let short = sym holds.over ∙ c.if-line.false in
    let stripped = whole_text whole c.deref.result.now c.without_return-text.result.now holds short c.deref.ensures.0 c.without_return-text.ensures in
    let found = c.fault_behind-fault.ensures (line_of whole) (c.line_kind.ensures whole holds loud) in
    let e = short_line c.args.stage c.args.number whole c.without_return-text.result.now c.fault_behind-fault.result loud short stripped found in
    subst (λ (y : Answer). AnsweredLine c.explain_text.result before (g.K.Sink.taken c.explain_text.new.sink) c.explain_text.new.pending.items text y) (sym e)
    (c.explain_text.ensures.answered before text (c.in_ok-make_room.ensures.text before text h))
