use Rattle.std.proofs.Common.{List, ℕ, ◌++◌, inl, refl, ap, ◌∙◌}
use Rattle.calspan_run.specs.Generator.{totals_text}
use Rattle.calspan_run.specs.Rules.{generator_rules}
use Rattle.calspan_run.specs.declared.status.Status.TheVariants.{Done}
use Rattle.calspan_run.proofs.EndLemmas.{ends_serve}
use Rattle.calspan_run.proofs.GeneratorLemmas.{may_end, generator_lasts}
use Rattle.calspan_run.proofs.generated.generating.serve_totals.Goals as goal

pub returns : goal.returns
returns g c left reads =
    let line = c.push_totals.ensures ∙ ap (λ (t : List ℕ). t ++ totals_text c.args.count c.totals_over.result) c.new-text.ensures in
    ends_serve (generator_rules c.args.count) (generator_lasts c.args.count) left left _ _ reads reads _ _ c.push_totals.new.text.items Done
    (may_end c.args.count left c.push_totals.new.text.items (c.totals_over.result, c.totals_over.ensures, line)) c.end_with.result (inl refl) c.end_with.ensures
