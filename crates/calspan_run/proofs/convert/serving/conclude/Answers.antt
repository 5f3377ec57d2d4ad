use Rattle.std.proofs.Common.{inl}
use Rattle.calspan_run.proofs.WriterLemmas.{text_all}
use Rattle.calspan_run.proofs.convert.serving.conclude.Goals as goal

pub returns-in-Ok : goal.returns-in-Ok
returns-in-Ok g c before text so_far = inl (c.status_of.ensures, text_all before _ c.flush.new.pending.items text (c.in-Ok.ensures.text before text so_far) c.in-Ok.ensures.none)
