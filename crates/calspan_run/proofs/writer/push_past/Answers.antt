use Rattle.std.proofs.Common.{◌++◌}
use Rattle.calspan_run.proofs.WriterLemmas.{short_more, pushed_err, written_past}
use Rattle.calspan_run.proofs.writer.push_past.Goals as goal

pub returns-in_err-flush-clause-text : goal.returns-in_err-flush-clause-text
returns-in_err-flush-clause-text g c before text h =
    pushed_err c.from_residual.result before _ _ (text ++ c.args.piece.now) c.from_residual.ensures.0
    (short_more before _ text c.args.piece.now (c.in_err-flush.ensures.text before text h))

pub returns-then-piece-remaining_capacity-clause-text : goal.returns-then-piece-remaining_capacity-clause-text
returns-then-piece-remaining_capacity-clause-text g c before text h =
    written_past _ before _ _ _ c.args.piece.now text (c.in_ok-flush.ensures.text before text h) c.in_ok-flush.ensures.none c.write_all.ensures.wrote
