use Rattle.std.proofs.Common.{ℕ, subst, sym, arith}
use Rattle.recurrence_sets.specs.Listing.{ArePassed}
use Rattle.recurrence_sets.proofs.LookLemmas.{looks-ended, looks-first, looks-passed}
use Rattle.recurrence_sets.proofs.looks.next_day.Goals as goal

pub returns-in-Some-clause-day : goal.returns-in-Some-clause-day
returns-in-Some-clause-day g c =
    let periods = c.args.periods.now in
    let seen = c.periods.seen in
    let earlier = c.earlier.ensures in
    looks-first (g.S.Periods.has periods) c.args.first c.args.last c.requires.days seen.period c.periods.invariant.passed (g.met.S.Periods.apart periods)
    seen.current c.periods.invariant.looks.current c.in-Some.day c.in-Some.ensures seen.following c.periods.invariant.looks.following
    c.first_in-next.result c.first_in-next.ensures c.earlier.result (record { first = earlier.first; second = earlier.second; either = earlier.either })

pub returns-then-is_none-clause-day : goal.returns-then-is_none-clause-day
returns-then-is_none-clause-day g c =
    let seen = c.periods.seen in
    looks-ended (g.S.Periods.has c.args.periods.now) c.args.first c.args.last c.requires.days seen.period c.periods.invariant.passed
    seen.current c.periods.invariant.looks.current c.if-is_none.ensures

pub periods-preserved : goal.periods-preserved
periods-preserved g c =
    let Has = g.S.Periods.has c.args.periods.now in
    let seen = c.periods.seen in
    record {
      looks = c.next_looks-seen.ensures.looks;
      passed = subst (λ (k : ℕ). ArePassed Has k c.args.first c.args.last) (sym c.next_looks-seen.ensures.period)
          (looks-passed Has c.args.first c.args.last c.requires.days seen.period c.periods.invariant.passed
          seen.current c.periods.invariant.looks.current c.in-None.ensures c.if-is_none.ensures);
      ticks = omega (arith, c.periods.invariant.ticks, c.next_looks-seen.ensures.ticks, c.next_looks-seen.ensures.period);
    }
