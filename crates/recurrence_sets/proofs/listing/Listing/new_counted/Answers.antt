use Rattle.std.proofs.Common.{Option, sym, subst}
use Rattle.std.specs.Prelude.{◌↔◌}
use Rattle.cal_types.specs.declared.window.Window.{Window}
use Rattle.recurrence_sets.specs.Bounds.{IsRestOf}
use Rattle.recurrence_sets.specs.Listing.{IsListing}
use Rattle.recurrence_sets.specs.Occurrences.{AreLeft, AreOccurrences, IsOfSome}
use Rattle.recurrence_sets.proofs.ListingLemmas.{for-some, items-full, items-none, items-within, new-state, none-bounded, none-for}
use Rattle.recurrence_sets.proofs.listing.Listing.new_counted.Goals as goal

pub invariant_of-result : goal.invariant_of-result
invariant_of-result g c =
    let Has = g.S.Periods.has c.args.periods in
    let b = c.args.bounds in
    let rest = c.in-Some.rest in
    let p = c.in-Some-passed.passed in
    let found = c.pass_before-period in
    let there = rw c.in-Some-passed.is at found.ensures.passed in
    record {
      listing = for-some (λ w. IsListing Has b p.index p.looks w) rest
          (new-state Has b c.args.window rest c.in-Some.ensures c.first_day-start.result c.ends-first.result.0 c.ends-first.result.1
          c.first_day-start.ensures c.ends-first.ensures.first c.ends-first.ensures.last p there);
    }

pub returns-in_default-clause-items : goal.returns-in_default-clause-items
returns-in_default-clause-items g c xs =
    let Is = IsOfSome (g.S.Periods.has c.args.periods) in
    let b = c.args.bounds in
    let w = c.args.window in
    subst (λ (o : Option Window). AreLeft Is b o xs ↔ AreOccurrences Is b w.first w.last xs) (sym c.ended.ensures.rest)
    (items-none Is b w.first w.last (none-bounded Is b w c.in_default.ensures) xs)

pub returns-in_default-passed-clause-items : goal.returns-in_default-passed-clause-items
returns-in_default-passed-clause-items g c xs =
    let Is = IsOfSome (g.S.Periods.has c.args.periods) in
    let b = c.args.bounds in
    let w = c.args.window in
    subst (λ (o : Option Window). AreLeft Is b o xs ↔ AreOccurrences Is b w.first w.last xs) (sym c.ended-in_default-passed.ensures.rest)
    (items-full Is b w c.in-Some.rest c.in-Some.ensures c.first_day-start.result c.ends-first.result.0 c.first_day-start.ensures c.ends-first.ensures.first
    (rw c.in_default-passed.is at c.pass_before-period.ensures.passed) xs)

pub returns-clause-items : goal.returns-clause-items
returns-clause-items g c xs = items-within (IsOfSome (g.S.Periods.has c.args.periods)) c.args.bounds c.args.window c.in-Some.rest c.in-Some.ensures xs

pub returns-in_default-clause-rest : goal.returns-in_default-clause-rest
returns-in_default-clause-rest g c = none-for (IsRestOf c.args.bounds c.args.window) _ c.ended.ensures.rest

pub returns-in_default-passed-clause-rest : goal.returns-in_default-passed-clause-rest
returns-in_default-passed-clause-rest g c = none-for (IsRestOf c.args.bounds c.args.window) _ c.ended-in_default-passed.ensures.rest

pub returns-clause-rest : goal.returns-clause-rest
returns-clause-rest g c = for-some (IsRestOf c.args.bounds c.args.window) c.in-Some.rest c.in-Some.ensures
