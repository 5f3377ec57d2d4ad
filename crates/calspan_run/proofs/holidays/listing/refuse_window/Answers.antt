use Rattle.std.proofs.Common.{ℕ, List, [], ◌∷◌, ◌++◌, codes, ap, subst, ◌∙◌}
use Rattle.calspan_run.specs.Endings.{EndsWith}
use Rattle.calspan_run.specs.declared.status.Status.TheVariants.{Refused}
use Rattle.calspan_run.proofs.holidays.listing.refuse_window.Goals as goal

pub returns : goal.returns
returns g c =
    let line = codes "err InvalidWindow" ++ 10 ∷ [] in
    let is = c.push_all.ensures ∙ ap (λ (t : List ℕ). t ++ line) c.new-text.ensures in
    subst (λ (t : List ℕ). EndsWith c.end_with.result Refused (g.K.Sink.taken c.args.sink.now) (g.K.Sink.taken c.end_with.new.sink) (g.K.Sink.faults c.args.sink.now) (g.K.Sink.faults c.end_with.new.sink) t) is c.end_with.ensures
