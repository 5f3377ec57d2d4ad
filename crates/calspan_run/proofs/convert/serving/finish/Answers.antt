use Rattle.std.proofs.Common.{◌||◌, Bool, sym, ap, ◌∙◌}
use Rattle.calspan_run.proofs.ConvertRunLemmas.{ends_none, ends_one, one_short}
use Rattle.calspan_run.proofs.ConvertAnswerLemmas.{empty_of}
use Rattle.calspan_run.proofs.ConvertHeadLemmas.{some_of}
use Rattle.cal_tables.specs.Kinds.{table_contents}
use Rattle.command_line.specs.ConvertSaid.{convert_said}
use Rattle.calspan_run.proofs.convert.serving.finish.Goals as goal

pub returns-then-is_empty : goal.returns-then-is_empty
returns-then-is_empty g c before text last holds so_far =
    ends_none (convert_said c.args.conversion.now.words) (table_contents c.args.conversion.now.tables) _ _ _ _ _ _ text last
    (empty_of last c.prefix.result.now (c.prefix.ensures last holds) (sym c.is_empty.ensures ∙ c.if-is_empty.true)) (c.conclude.ensures before text so_far)

pub returns-in-Ok : goal.returns-in-Ok
returns-in-Ok g c before text last holds so_far =
    let (is, on) = c.in-Ok.ensures.answered before text last holds so_far in
    ends_one (convert_said c.args.conversion.now.words) (table_contents c.args.conversion.now.tables) _ _ _ _ _ _ _ _ text last
    (some_of last c.prefix.result.now (c.prefix.ensures last holds) (sym c.is_empty.ensures ∙ c.if-is_empty.false)) (c.either.ensures ∙ ap (λ (b : Bool). c.args.is_bad || b) is) c.in-Ok.ensures.cause.later (c.conclude-in-Ok.ensures before _ on)

pub returns-in-Err : goal.returns-in-Err
returns-in-Err g c before text last holds so_far =
    one_short (convert_said c.args.conversion.now.words) (table_contents c.args.conversion.now.tables) _ _ _ _ _ text last
    (some_of last c.prefix.result.now (c.prefix.ensures last holds) (sym c.is_empty.ensures ∙ c.if-is_empty.false)) (c.in-Err.ensures.answered before text last holds so_far) c.in-Err.ensures.cause.failed
