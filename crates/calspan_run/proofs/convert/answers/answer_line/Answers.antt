use Rattle.std.proofs.Common.{◌++◌, ◌∷◌, [], true, false, codes, refl, sym, subst, ◌∙◌}
use Rattle.cal_tables.specs.Kinds.{table_contents}
use Rattle.command_line.specs.ConvertSaid.{convert_said}
use Rattle.calspan_run.specs.Converted.{Answer}
use Rattle.calspan_run.specs.Converting.{AnsweredLine}
use Rattle.calspan_run.proofs.ConvertAnswerLemmas.{answered_as, answered_err, empty_answer, long_answer, short_answer}
use Rattle.calspan_run.proofs.WriterLemmas.{short_more, text_more}
use Rattle.calspan_run.proofs.convert.answers.answer_line.Goals as goal

pub returns-in_err-make_room-clause-answered : goal.returns-in_err-make_room-clause-answered
returns-in_err-make_room-clause-answered g c before text whole holds h =
    answered_err c.from_residual.result before _ _ text _ c.from_residual.ensures.0 (short_more before _ text _ (c.in_err-make_room.ensures.text before text h))

pub returns-then-is_over-clause-answered : goal.returns-then-is_over-clause-answered
returns-then-is_over-clause-answered g c before text whole holds h =
    let e = long_answer (convert_said c.args.conversion.now.words) (table_contents c.args.conversion.now.tables) whole (sym (c.is_over.ensures whole holds) ∙ c.if-is_over.true) in
    answered_as before _ _ text true _ _ e refl (text_more before _ c.make_room.new.pending.items (codes "!long" ++ 10 ∷ []) c.push_all.new.text.items text (c.in_ok-make_room.ensures.text before text h) c.push_all.ensures)

pub returns-then-is_empty-clause-answered : goal.returns-then-is_empty-clause-answered
returns-then-is_empty-clause-answered g c before text whole holds h =
    let e = empty_answer (convert_said c.args.conversion.now.words) (table_contents c.args.conversion.now.tables) whole c.prefix-text.result.now (c.prefix-text.ensures whole holds) (sym c.is_empty.ensures ∙ c.if-is_empty.true) in
    answered_as before _ _ text false _ _ e refl (text_more before _ c.make_room.new.pending.items (10 ∷ []) c.push.new.self.items text (c.in_ok-make_room.ensures.text before text h) c.push.ensures.items)

pub returns-clause-answered : goal.returns-clause-answered
returns-clause-answered g c before text whole holds h =
    let e = short_answer (convert_said c.args.conversion.now.words) (table_contents c.args.conversion.now.tables) whole c.prefix-text.result.now (c.prefix-text.ensures whole holds)
    (sym (c.is_over.ensures whole holds) ∙ c.if-is_over.false) (sym c.is_empty.ensures ∙ c.if-is_empty.false) in
    subst (λ (y : Answer). AnsweredLine c.answer_text.result before (g.K.Sink.taken c.answer_text.new.sink) c.answer_text.new.pending.items text y) (sym e)
    (c.answer_text.ensures.answered before text (c.in_ok-make_room.ensures.text before text h))
