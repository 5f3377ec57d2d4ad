use Rattle.std.proofs.Common.{◌≡◌, ◌+◌, [], sym, ap, ◌∙◌}
use Rattle.row_faults.specs.declared.stages.Stage.TheVariants.{Rows}
use Rattle.table_rows.proofs.InputLemmas.{is_none, is_some}
use Rattle.calspan_run.specs.Explained.{explained}
use Rattle.calspan_run.proofs.ExplainLemmas.{ends_none, ends_one, one_short}
use Rattle.calspan_run.proofs.explain.serving.finish.Goals as goal

pub returns-then-is_empty : goal.returns-then-is_empty
returns-then-is_empty g c before closed last count known stands holds so_far =
    let none : last ≡ [] = is_none last (sym (c.is_empty.ensures last holds) ∙ c.if-is_empty.true) in
    ends_none _ _ _ _ _ closed last c.args.is_malformed none known (c.conclude.ensures before (explained Rows 1 closed) so_far)

pub returns-in-Ok : goal.returns-in-Ok
returns-in-Ok g c before closed last count known stands holds so_far =
    let some : last ≡ [] → ⊥ = is_some last (sym (c.is_empty.ensures last holds) ∙ c.if-is_empty.false) in
    let (said, on) = c.in-Ok.ensures.answered before (explained Rows 1 closed) last holds so_far in
    ends_one _ _ _ _ _ _ closed last c.args.is_malformed _ _ c.args.stage some (ap (λ k. k + 1) count) stands known said c.either.ensures c.in-Ok.ensures.cause.later (c.conclude-in-Ok.ensures before _ on)

pub returns-in-Err : goal.returns-in-Err
returns-in-Err g c before closed last count known stands holds so_far =
    let some : last ≡ [] → ⊥ = is_some last (sym (c.is_empty.ensures last holds) ∙ c.if-is_empty.false) in
    one_short _ _ _ _ closed last c.args.stage some (ap (λ k. k + 1) count) stands (c.in-Err.ensures.answered before (explained Rows 1 closed) last holds so_far) c.in-Err.ensures.cause.failed
