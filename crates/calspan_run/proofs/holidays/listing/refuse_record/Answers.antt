use Rattle.std.proofs.Common.{ℕ, List, subst}
use Rattle.calspan_run.specs.Endings.{EndsWith}
use Rattle.calspan_run.specs.declared.status.Status.TheVariants.{Refused}
use Rattle.calspan_run.proofs.HolidayLineLemmas.{pushed_fault}
use Rattle.calspan_run.proofs.holidays.listing.refuse_record.Goals as goal

pub returns : goal.returns
returns g c =
    let is = pushed_fault c.args.number c.args.field c.from.result _ _ _ _ _ _ c.new-text.ensures c.push_all.ensures c.push_number.ensures.items c.push_all-2.ensures c.push_number-2.ensures.items c.from.ensures c.push.ensures.items in
    subst (λ (t : List ℕ). EndsWith c.end_with.result Refused (g.K.Sink.taken c.args.sink.now) (g.K.Sink.taken c.end_with.new.sink) (g.K.Sink.faults c.args.sink.now) (g.K.Sink.faults c.end_with.new.sink) t) is c.end_with.ensures
