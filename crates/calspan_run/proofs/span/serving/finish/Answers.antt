use Rattle.std.proofs.Common.{◌≡◌, ◌+◌, ◌++◌, ◌∷◌, [], List, ℕ, inr, refl, sym, ap, subst, ◌∙◌}
use Rattle.calspan_run.specs.Underway.{AnswersBehind}
use Rattle.calspan_run.specs.Answers.{Answering, status_at}
use Rattle.calspan_run.specs.Progress.{answered_status, standing_of}
use Rattle.table_rows.specs.Gathering.{with_open_line}
use Rattle.calspan_run.proofs.UnderwayLemmas.{behind_push, behind_more, ends_from, standing_status}
use Rattle.table_rows.proofs.InputLemmas.{is_none, is_some, opened}
use Rattle.calspan_run.proofs.WriterLemmas.{short_more}
use Rattle.calspan_run.proofs.span.serving.finish.Goals as goal

pub returns-then-is_empty : goal.returns-then-is_empty
returns-then-is_empty g c before closed text last rows tables is holds behind so_far =
    let none : last ≡ [] = is_none last (sym (c.is_empty.ensures last holds) ∙ c.if-is_empty.true) in
    (text, Answering c.args.progress.refused, subst (λ (y : List (List ℕ)). AnswersBehind rows y text (Answering c.args.progress.refused)) (sym (ap (with_open_line closed) none)) behind, c.conclude.ensures before text so_far)

pub returns-in-Ok : goal.returns-in-Ok
returns-in-Ok g c before closed text last rows tables is holds behind so_far =
    let some : last ≡ [] → ⊥ = is_some last (sym (c.is_empty.ensures last holds) ∙ c.if-is_empty.false) in
    let (added, answer, on) = c.in-Ok.ensures.answered before text last rows tables holds so_far in
    let s = standing_of c.in-Ok.answered in (
      text ++ added,
      s,
      subst (λ (y : List (List ℕ)). AnswersBehind rows y (text ++ added) s) (sym (opened closed last some))
          (behind_push rows closed text (Answering c.args.progress.refused) behind last (c.args.lines + 1) added s (ap (λ k. k + 1) is) answer),
      ends_from _ (answered_status c.in-Ok.answered) (status_at s) before _ _ _ _ (text ++ added) (standing_status c.in-Ok.answered) c.in-Ok.ensures.cause.later (c.conclude-in-Ok.ensures before (text ++ added) on),
    )

pub returns-in-Err : goal.returns-in-Err
returns-in-Err g c before closed text last rows tables is holds behind so_far =
    let some : last ≡ [] → ⊥ = is_some last (sym (c.is_empty.ensures last holds) ∙ c.if-is_empty.false) in
    let (added, next, all) = behind_more rows closed text (Answering c.args.progress.refused) behind (last ∷ []) in (
      text ++ added,
      next,
      subst (λ (y : List (List ℕ)). AnswersBehind rows y (text ++ added) next) (sym (opened closed last some)) all,
      inr (refl, short_more before _ text added (c.in-Err.ensures.answered before text last rows tables holds so_far), c.in-Err.ensures.cause.failed),
    )
