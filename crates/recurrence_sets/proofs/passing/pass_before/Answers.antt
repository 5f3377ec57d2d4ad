use Rattle.std.proofs.Common.{refl, sym, subst, arith, ℤ}
use Rattle.recurrence_sets.specs.Bounds.{has_all}
use Rattle.recurrence_sets.specs.Occurrences.{IsOfSome}
use Rattle.recurrence_sets.specs.Passing.{HasPassed}
use Rattle.recurrence_sets.proofs.PassingLemmas.{pass-first}
use Rattle.recurrence_sets.proofs.passing.pass_before.Goals as goal

pub days-init : goal.days-init
days-init g c = record {
  passed = pass-first (g.S.Periods.has c.args.periods.now) c.args.first c.args.last c.looks_from-looks.result c.looks_from-looks.ensures.looks c.looks_from-looks.ensures.period;
  first = refl;
  most = c.requires.before.order;
  ticks = omega (arith, c.looks_from-looks.ensures.ticks, c.looks_from-looks.ensures.period);
}

pub returns-then-has_all-clause-passed : goal.returns-then-has_all-clause-passed
returns-then-has_all-clause-passed g c =
    let Is = IsOfSome (g.S.Periods.has c.args.periods.now) in
    let p = c.days.passed in
    record {
      next = p.next;
      index = p.index;
      order = c.days.invariant.most;
      counted = subst (λ (n : ℤ). HasPassed Is n p.next p.index) c.days.invariant.first c.days.invariant.passed.counted;
      full = sym {b = has_all c.args.bounds.now.count p.index} c.if-has_all.ensures;
    }
