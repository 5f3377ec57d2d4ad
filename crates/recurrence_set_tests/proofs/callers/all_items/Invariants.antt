use Rattle.std.proofs.Common.{◌≡◌, List, ◌++◌}
use Rattle.recurrence_sets.specs.Listing.{days_left}
use Rattle.recurrence_sets.specs.Occurrences.{AreLeft, AreOccurrences, IsOfSome}
use Rattle.recurrence_sets.specs.declared.occurrence.Occurrence.{Occurrence}
use Rattle.recurrence_set_tests.proofs.callers.all_items.Given as goal

-- with the occurrences that are left, those that were given make up all
abbrev pub invariant-given : goal.invariant-given
invariant-given g l = record {
  list : (xs : List Occurrence) → AreLeft (IsOfSome (g.S.Periods.has l.fn.periods)) l.fn.bounds l.items.rest xs →
      AreOccurrences (IsOfSome (g.S.Periods.has l.fn.periods)) l.fn.bounds l.fn.window.first l.fn.window.last (l.given.items ++ xs);
  periods : l.items.periods ≡ l.fn.periods;
  bounds : l.items.bounds ≡ l.fn.bounds;
}

abbrev pub decreases-given : goal.decreases-given
decreases-given g l = days_left l.items.rest
