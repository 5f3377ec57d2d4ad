use Rattle.std.proofs.Common.{◌≡◌, ◌<◌, ◌+◌, ◌%◌, ◌⊎◌, inl, inr, arith, subst, sym}
use Rattle.std.specs.Prelude.{option_map}
use Rattle.cal_days.proofs.Signed.{by_lt}
use Rattle.cal_holidays.specs.Found.{pair_of, stretch_of}
use Rattle.cal_holidays.specs.Merging.{IsInPlace}
use Rattle.cal_holidays.proofs.FirstLemmas.{first_of_same, first_of_two}
use Rattle.cal_holidays.proofs.first.first_of_place.Goals as goal

pub loop-rule-preserved : goal.loop-rule-preserved
loop-rule-preserved g c =
    let names = g.R.NumberedRules.names c.args.rules.now in
    let count = g.R.NumberedRules.count_of c.args.rules.now in
    let rule = c.loop-rule.rule in
    let place = c.args.place in
    let here = c.loop-rule.invariant.place in
    record {
      place = omega (arith, here);
      first = first_of_two names count (λ r. (r % 64 ≡ place) × (r < rule)) (λ r. r ≡ rule) (λ r. (r % 64 ≡ place) × (r < rule + 64)) (stretch_of c.args.rest)
          c.loop-rule.best c.first_of_rule.result c.earlier-best.result c.loop-rule.invariant.first c.first_of_rule.ensures
          (λ r h. by_lt {P = ((r % 64 ≡ place) × (r < rule)) ⊎ (r ≡ rule)} r rule (λ lt. inl (h.0, lt)) (λ ge. inr (omega (arith, h.0, h.1, here))))
          (λ r h. (h.0, omega (arith, h.1)))
          (λ r e. (subst (λ q. q % 64 ≡ place) (sym e) here, omega (arith, e)))
          c.earlier-best.ensures;
    }

pub returns : goal.returns
returns g c =
    let names = g.R.NumberedRules.names c.args.rules.now in
    let count = g.R.NumberedRules.count_of c.args.rules.now in
    first_of_same names count (λ r. (r % 64 ≡ c.args.place) × (r < c.loop-rule.rule)) (IsInPlace c.args.place) (stretch_of c.args.rest) (option_map pair_of c.loop-rule.best)
    (λ r lt h. (h, omega (arith, c.loop-rule-test.false, c.count-count.ensures.value)))
    (λ r h. h.0)
    c.loop-rule.invariant.first
