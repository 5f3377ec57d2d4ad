use Rattle.std.proofs.Common.{inl, refl, sym, subst}
use Rattle.calspan_run.specs.Converted.{Answer}
use Rattle.calspan_run.specs.Endings.{EndsWith}
use Rattle.calspan_run.specs.Refusals.{status_of}
use Rattle.calspan_run.specs.declared.status.Status.TheVariants.{Done}
use Rattle.calspan_run.proofs.BookLemmas.{empty_bytes}
use Rattle.calspan_run.proofs.KnownLemmas.{appends_none}
use Rattle.calspan_run.proofs.RecordLineLemmas.{empty_explained}
use Rattle.calspan_run.proofs.explain.records.RecordLinesBookTask.write_book.Goals as goal

pub returns-then-is_empty : goal.returns-then-is_empty
returns-then-is_empty g c =
    let taken = g.K.Sink.taken c.args.sink.now in
    let faults = g.K.Sink.faults c.args.sink.now in
    let explained = empty_explained c.args.book.now (empty_bytes c.args.book.now c.if-is_empty.ensures) in
    inl (subst (λ (a : Answer). EndsWith Done (status_of a.1) taken taken faults faults a.0) (sym explained) (inl (refl, appends_none taken)))
