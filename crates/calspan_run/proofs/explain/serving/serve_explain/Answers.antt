use Rattle.calspan_run.proofs.ExplainLemmas.{explaining_begins}
use Rattle.calspan_run.proofs.explain.serving.serve_explain.Goals as goal

pub returns : goal.returns
returns g c =
    c.serve_from.ensures _ (explaining_begins (g.S.Source.left c.args.source.now) (g.K.Sink.taken c.args.sink.now) _ _ _ _ _ c.new-reader.ensures.at c.new-line.ensures c.new-reader.ensures.lines c.new-pending.ensures)
