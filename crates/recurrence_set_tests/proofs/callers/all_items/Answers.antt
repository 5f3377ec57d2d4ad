use Rattle.std.proofs.Common.{[], subst, subst₂}
use Rattle.std.proofs.lemmas.List.{append-nil}
use Rattle.recurrence_sets.specs.Occurrences.{AreLeft, AreOccurrences, IsOfSome}
use Rattle.recurrence_sets.specs.declared.bounds.Bounds.{Bounds}
use Rattle.recurrence_sets.proofs.ListingLemmas.{goes-end}
use Rattle.recurrence_set_tests.proofs.callers.all_items.Goals as goal

pub returns-in-None : goal.returns-in-None
returns-in-None g c =
    let items = c.given.items in
    let end = goes-end (IsOfSome (g.S.Periods.has items.periods)) items.bounds items.rest _ c.in-None.ensures.steps.0 in
    let here = subst₂ (λ p (b : Bounds). AreLeft (IsOfSome (g.S.Periods.has p)) b items.rest []) c.given.invariant.periods c.given.invariant.bounds end in
    subst (AreOccurrences (IsOfSome (g.S.Periods.has c.args.periods)) c.args.bounds c.args.window.first c.args.window.last) (append-nil c.given.given.items)
    (c.given.invariant.list [] here)
