use Rattle.std.proofs.Common.{◌<◌, Option, refl, sym, subst, subst₂, arith, ℤ}
use Rattle.cal_days.proofs.Signed.{signed}
use Rattle.cal_types.specs.declared.window.Window.{Window}
use Rattle.recurrence_sets.specs.Days.{IsFirstBetween}
use Rattle.recurrence_sets.specs.Listing.{AreLooks, ArePassed, days_left}
use Rattle.recurrence_sets.specs.Occurrences.{IsOfSome}
use Rattle.recurrence_sets.proofs.ListingLemmas.{fewer-left, first-left, goes-ended, goes-none, goes-some, next-state, none-left, none-more, whole-left}
use Rattle.recurrence_sets.proofs.listing.Listing.next_counted.Goals as goal

pub returns-in_err-window-clause-gives : goal.returns-in_err-window-clause-gives
returns-in_err-window-clause-gives g c =
    let self = c.args.self.now in
    (goes-none (IsOfSome (g.S.Periods.has self.periods)) self.bounds self.rest c.from_residual.result c.in_err-window.was c.from_residual.ensures, refl, refl)

pub returns-then-has_all-clause-gives : goal.returns-then-has_all-clause-gives
returns-then-has_all-clause-gives g c =
    let self = c.args.self.now in
    let Is = IsOfSome (g.S.Periods.has self.periods) in
    let w = c.in_ok-window.window in
    let state = self.listing w c.in_ok-window.was in
    (goes-ended Is self.bounds w (none-more Is self.bounds w self.index state.started state.ended state.counted (sym c.if-has_all.ensures)) self.rest c.in_ok-window.was, refl, refl)

pub next_day-looks-requires-clause-looks : goal.next_day-looks-requires-clause-looks
next_day-looks-requires-clause-looks g c =
    let self = c.args.self.now in
    let state = self.listing c.in_ok-window.window c.in_ok-window.was in
    subst (λ (n : ℤ). AreLooks (g.S.Periods.has self.periods) n self.looks) (sym c.ends-first.ensures.last) state.looked

pub next_day-looks-requires-clause-passed : goal.next_day-looks-requires-clause-passed
next_day-looks-requires-clause-passed g c =
    let self = c.args.self.now in
    let state = self.listing c.in_ok-window.window c.in_ok-window.was in
    subst₂ (λ (a z : ℤ). ArePassed (g.S.Periods.has self.periods) self.looks.period a z) (sym c.ends-first.ensures.first) (sym c.ends-first.ensures.last) state.passed

pub overflow_add-self : goal.overflow_add-self
overflow_add-self g c =
    let w = c.in_ok-window.window in
    let state = c.args.self.now.listing w c.in_ok-window.was in
    omega (arith, signed, state.few, w.days.from)

pub returns-in-None-clause-gives : goal.returns-in-None-clause-gives
returns-in-None-clause-gives g c =
    let self = c.args.self.now in
    let Is = IsOfSome (g.S.Periods.has self.periods) in
    let w = c.in_ok-window.window in
    let state = self.listing w c.in_ok-window.was in
    let none = subst (IsFirstBetween Is w.first w.last) c.in-None.is
    (subst₂ (λ (a z : ℤ). IsFirstBetween Is a z c.next_day-looks.result.1) c.ends-first.ensures.first c.ends-first.ensures.last c.next_day-looks.ensures.day) in
    (goes-ended Is self.bounds w (none-left Is self.bounds w self.index state.started state.ended state.counted none) self.rest c.in_ok-window.was, refl, refl)

pub invariant_of-self-in-Some : goal.invariant_of-self-in-Some
invariant_of-self-in-Some g c =
    let self = c.args.self.now in
    let Has = g.S.Periods.has self.periods in
    let w = c.in_ok-window.window in
    let state = self.listing w c.in_ok-window.was in
    let look = c.next_day-looks in
    let first = subst (IsFirstBetween (IsOfSome Has) w.first w.last) c.in-Some.is
    (subst₂ (λ (a z : ℤ). IsFirstBetween (IsOfSome Has) a z look.result.1) c.ends-first.ensures.first c.ends-first.ensures.last look.ensures.day) in
    record {
      listing = next-state Has self.bounds w self.index self.looks state c.in-Some.day first look.result.0
          (subst (λ (n : ℤ). AreLooks Has n look.result.0) c.ends-first.ensures.last look.ensures.looks)
          (subst₂ (λ (a z : ℤ). ArePassed Has look.result.0.period a z) c.ends-first.ensures.first c.ends-first.ensures.last look.ensures.passed)
          c.after-self.result c.after-self.ensures;
    }

pub returns-in-Some-clause-gives : goal.returns-in-Some-clause-gives
returns-in-Some-clause-gives g c =
    let self = c.args.self.now in
    let Is = IsOfSome (g.S.Periods.has self.periods) in
    let w = c.in_ok-window.window in
    let state = self.listing w c.in_ok-window.was in
    let look = c.next_day-looks in
    let day = c.in-Some.day in
    let first = subst (IsFirstBetween Is w.first w.last) c.in-Some.is
    (subst₂ (λ (a z : ℤ). IsFirstBetween Is a z look.result.1) c.ends-first.ensures.first c.ends-first.ensures.last look.ensures.day) in
    let few = sym c.if-has_all.ensures in (
      goes-some Is self.bounds w (record { index = self.index; day = day }) (first-left Is self.bounds w self.index state.started state.ended state.counted day first few)
          c.after-self.result c.after-self.ensures
          (whole-left Is self.bounds w self.index state.started state.ended state.counted day first few c.after-self.result c.after-self.ensures)
          self.rest c.in_ok-window.was,
      refl,
      refl,
    )

pub returns-in-Some-clause-fewer : goal.returns-in-Some-clause-fewer
returns-in-Some-clause-fewer g c =
    let self = c.args.self.now in
    let Is = IsOfSome (g.S.Periods.has self.periods) in
    let w = c.in_ok-window.window in
    let look = c.next_day-looks in
    let first = subst (IsFirstBetween Is w.first w.last) c.in-Some.is
    (subst₂ (λ (a z : ℤ). IsFirstBetween Is a z look.result.1) c.ends-first.ensures.first c.ends-first.ensures.last look.ensures.day) in
    subst (λ (o : Option Window). days_left c.after-self.result < days_left o) (sym c.in_ok-window.was)
    (fewer-left w c.in-Some.day first.within c.after-self.result c.after-self.ensures)
