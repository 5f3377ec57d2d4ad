use Rattle.std.proofs.Common.{[], refl}
use Rattle.calspan_run.specs.TextSoFar.{lines_text}
use Rattle.calspan_run.proofs.KnownLemmas.{wrote_err}
use Rattle.calspan_run.proofs.WriterLemmas.{not_both, text_begins, flushed_all}
use Rattle.calspan_run.proofs.writer.write_lines.Goals as goal

pub returns-in_err-push_lines-clause-wrote : goal.returns-in_err-push_lines-clause-wrote
returns-in_err-push_lines-clause-wrote g c all yields =
    wrote_err c.from_residual.result _ _ (lines_text (g.L.ItemLines.line_of c.args.lines.now) all) c.from_residual.ensures.0
    (c.in_err-push_lines.ensures.text all _ [] yields (text_begins (g.K.Sink.taken c.args.sink.now) c.new-pending.result.items c.new-pending.ensures))

pub returns-clause-wrote : goal.returns-clause-wrote
returns-clause-wrote g c all yields =
    let text = lines_text (g.L.ItemLines.line_of c.args.lines.now) all in
    let pushed = c.in_ok-push_lines.ensures.text all _ [] yields (text_begins (g.K.Sink.taken c.args.sink.now) c.new-pending.result.items c.new-pending.ensures) in
    flushed_all c.flush.result (g.K.Sink.taken c.args.sink.now) _ _ text (c.flush.ensures.text (g.K.Sink.taken c.args.sink.now) text pushed) c.flush.ensures.none

pub returns-in_err-push_lines-clause-given : goal.returns-in_err-push_lines-clause-given
returns-in_err-push_lines-clause-given g c =
    let (xs, drains, pushed) = c.in_err-push_lines.ensures.given in (
      xs,
      (drains.0, drains.1, λ ok. not_both c.from_residual.result ok c.from_residual.ensures.0),
      wrote_err c.from_residual.result _ _ (lines_text (g.L.ItemLines.line_of c.args.lines.now) xs) c.from_residual.ensures.0
          (pushed _ [] (text_begins (g.K.Sink.taken c.args.sink.now) c.new-pending.result.items c.new-pending.ensures)),
    )

pub returns-clause-given : goal.returns-clause-given
returns-clause-given g c =
    let (xs, drains, pushed) = c.in_ok-push_lines.ensures.given in
    let text = lines_text (g.L.ItemLines.line_of c.args.lines.now) xs in
    let all = pushed _ [] (text_begins (g.K.Sink.taken c.args.sink.now) c.new-pending.result.items c.new-pending.ensures) in (
      xs,
      (drains.0, drains.1, λ ok. drains.2 refl),
      flushed_all c.flush.result (g.K.Sink.taken c.args.sink.now) _ _ text (c.flush.ensures.text (g.K.Sink.taken c.args.sink.now) text all) c.flush.ensures.none,
    )
