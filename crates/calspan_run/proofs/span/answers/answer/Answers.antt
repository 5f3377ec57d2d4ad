use Rattle.std.proofs.Common.{◌≡◌, true, [], refl, sym, ◌∙◌, subst}
use Rattle.std.proofs.lemmas.List.{append-nil}
use Rattle.cal_tables.specs.Kinds.{table_contents}
use Rattle.request_lines.specs.Lines.{Line, is_silent}
use Rattle.calspan_run.specs.Answers.{Answering, IsAnswerTo}
use Rattle.request_lines.proofs.LineLemmas.{silent_is}
use Rattle.calspan_run.proofs.span.answers.answer.Goals as goal

pub returns-then-is_silent : goal.returns-then-is_silent
returns-then-is_silent c whole holds =
    let s = Answering c.args.progress.refused in
    let silent : is_silent whole ≡ true = sym (c.is_silent.ensures whole holds) ∙ c.if-is_silent.true in
    ([], sym (append-nil c.args.pending.now.items), subst (λ (l : Line). IsAnswerTo l (table_contents c.args.tables.now) c.args.number s [] s) (sym (silent_is whole silent)) (refl, refl))

pub returns : goal.returns
returns c whole holds =
    c.answer_line.ensures whole holds (sym (c.is_silent.ensures whole holds) ∙ c.if-is_silent.false)
