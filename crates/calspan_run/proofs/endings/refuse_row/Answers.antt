use Rattle.std.proofs.Common.{◌++◌, List, ℕ, ap, subst, ◌∙◌}
use Rattle.calspan_run.specs.Endings.{EndsWith}
use Rattle.calspan_run.specs.TableTexts.{row_refusal}
use Rattle.calspan_run.specs.declared.status.Status.TheVariants.{TableRefused}
use Rattle.calspan_run.proofs.endings.refuse_row.Goals as goal

pub returns : goal.returns
returns g c =
    let is = c.push_row_refusal.ensures ∙ ap (λ (t : List ℕ). t ++ row_refusal c.args.number c.args.why) c.new-text.ensures in
    subst (λ (t : List ℕ). EndsWith c.end_with.result TableRefused (g.K.Sink.taken c.args.sink.now) (g.K.Sink.taken c.end_with.new.sink) (g.K.Sink.faults c.args.sink.now) (g.K.Sink.faults c.end_with.new.sink) t) is c.end_with.ensures
