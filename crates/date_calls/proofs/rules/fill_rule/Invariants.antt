use Rattle.std.proofs.Common.{length, ◌-◌, ◌≡◌, ◌≤◌, List, ℤ, drop, take}
use Rattle.recurrence_sets.specs.Occurrences.{AreLeft, IsOfSome}
use Rattle.recurrence_sets.specs.declared.occurrence.Occurrence.{Occurrence}
use Rattle.date_calls.specs.Lists.{EndsOn}
use Rattle.date_calls.specs.Rules.{items_before}
use Rattle.date_calls.proofs.rules.fill_rule.Given as goal

-- the occurrences are the items that were written, and those that are left
abbrev pub invariant-given : goal.invariant-given
invariant-given g l = record {
  periods : l.list.periods ≡ l.initial.list.periods;
  bounds : l.list.bounds ≡ l.initial.list.bounds;
  whole : (xs : List Occurrence) → AreLeft (IsOfSome (g.S.Periods.has l.initial.list.periods)) l.initial.list.bounds l.list.rest xs →
      AreLeft (IsOfSome (g.S.Periods.has l.initial.list.periods)) l.initial.list.bounds l.initial.list.rest (items_before (take l.written l.items) xs);
  behind : drop l.written l.items ≡ drop l.written l.initial.items;
  fits : l.written ≤ length l.initial.items;
  size : length l.items ≡ length l.initial.items;
  ends : (last : ℤ) → EndsOn last l.initial.list.rest → EndsOn last l.list.rest;
}

abbrev pub decreases-given : goal.decreases-given
decreases-given g l = length l.initial.items - l.written
