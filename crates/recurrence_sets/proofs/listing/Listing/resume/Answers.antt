use Rattle.std.proofs.Common.{Option, sym, subst}
use Rattle.std.specs.Prelude.{◌↔◌}
use Rattle.cal_types.specs.declared.window.Window.{Window}
use Rattle.recurrence_sets.specs.Bounds.{IsRestOf}
use Rattle.recurrence_sets.specs.Listing.{IsListing}
use Rattle.recurrence_sets.specs.Occurrences.{AreLeft, AreOccurrences, IsOfSome}
use Rattle.recurrence_sets.proofs.ListingLemmas.{for-some, items-none, items-within, none-bounded, none-for, resumed-state}
use Rattle.recurrence_sets.proofs.listing.Listing.resume.Goals as goal

pub invariant_of-result : goal.invariant_of-result
invariant_of-result g c =
    let Has = g.S.Periods.has c.args.periods in
    let b = c.args.bounds in
    let rest = c.in-Some.rest in
    let looks = c.near_looks_with_blank-looks in
    record {
      listing = for-some (λ w. IsListing Has b c.args.index looks.result w) rest
          (resumed-state Has b c.args.window rest c.in-Some.ensures c.args.index c.requires looks.result c.ends-first.result.0 c.ends-first.result.1
          c.ends-first.ensures.first c.ends-first.ensures.last looks.ensures.looks looks.ensures.passed);
    }

pub returns-in_default-clause-items : goal.returns-in_default-clause-items
returns-in_default-clause-items g c xs =
    let Is = IsOfSome (g.S.Periods.has c.args.periods) in
    let b = c.args.bounds in
    let w = c.args.window in
    subst (λ (o : Option Window). AreLeft Is b o xs ↔ AreOccurrences Is b w.first w.last xs) (sym c.ended.ensures.rest)
    (items-none Is b w.first w.last (none-bounded Is b w c.in_default.ensures) xs)

pub returns-clause-items : goal.returns-clause-items
returns-clause-items g c xs = items-within (IsOfSome (g.S.Periods.has c.args.periods)) c.args.bounds c.args.window c.in-Some.rest c.in-Some.ensures xs

pub returns-in_default-clause-rest : goal.returns-in_default-clause-rest
returns-in_default-clause-rest g c = none-for (IsRestOf c.args.bounds c.args.window) _ c.ended.ensures.rest

pub returns-clause-rest : goal.returns-clause-rest
returns-clause-rest g c = for-some (IsRestOf c.args.bounds c.args.window) c.in-Some.rest c.in-Some.ensures
