use Rattle.std.proofs.Common.{List, ℕ, subst}
use Rattle.std.specs.Io.KnownBytes.{Appends}
use Rattle.calspan_run.specs.Written.{WrotePrefix}
use Rattle.calspan_run.proofs.WriterLemmas.{text_written, text_short, pushed_err}
use Rattle.calspan_run.proofs.writer.flush.Goals as goal

pub returns-in_err-write_all-clause-text : goal.returns-in_err-write_all-clause-text
returns-in_err-write_all-clause-text g c before text h =
    let wrote = subst (λ (t : List ℕ). WrotePrefix (g.K.Sink.taken c.args.sink.now) (g.K.Sink.taken c.write_all.new.sink) t) c.deref.ensures.0 c.in_err-write_all.ensures.wrote in
    pushed_err c.from_residual.result before _ _ text c.from_residual.ensures.0 (text_short before _ _ c.args.pending.now.items text h wrote)

pub returns-clause-text : goal.returns-clause-text
returns-clause-text g c before text h =
    let wrote = subst (λ (t : List ℕ). Appends (g.K.Sink.taken c.args.sink.now) (g.K.Sink.taken c.write_all.new.sink) t) c.deref.ensures.0 c.in_ok-write_all.ensures.wrote in
    text_written before _ _ c.args.pending.now.items c.clear.new.self.items text h wrote c.clear.ensures
