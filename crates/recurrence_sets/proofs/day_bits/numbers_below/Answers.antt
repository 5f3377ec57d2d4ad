use Rattle.std.proofs.Common.{◌≡◌, ◌-◌, ◌*◌, min, ap, sym, ◌∙◌, arith}
use Rattle.cal_rule.specs.Sets.{has_number}
use Rattle.recurrence_sets.specs.Numbers.{count_below}
use Rattle.recurrence_sets.proofs.NumberLemmas.{count-zero}
use Rattle.recurrence_sets.proofs.WordLemmas.{count-further}
use Rattle.recurrence_sets.proofs.day_bits.numbers_below.Goals as goal

pub loop-place-init : goal.loop-place-init
loop-place-init c =
    let none : min c.args.to 0 ≡ 0 = omega arith in
    record {
      counted = sym (ap (count_below (has_number c.args.words.now)) none ∙ count-zero (has_number c.args.words.now));
      few = omega arith;
    }

pub loop-place-preserved : goal.loop-place-preserved
loop-place-preserved c =
    let low : c.least.result ≡ min (c.args.to - 64 * c.loop-place.place) 64 = c.least.ensures ∙ ap (λ n. min n 64) c.saturating_sub.ensures in
    record {
      counted = count-further c.args.words.now c.loop-place.place c.args.to c.least.result c.loop-place.count c.bits_below-count.result low c.loop-place.invariant.counted c.bits_below-count.ensures.count;
      few = omega (arith, c.loop-place.invariant.few, c.bits_below-count.ensures.few);
    }

pub returns : goal.returns
returns c =
    let all : min c.args.to (64 * c.loop-place.place) ≡ c.args.to = omega (arith, c.requires.within, c.loop-place-test.false) in
    c.loop-place.invariant.counted ∙ ap (count_below (has_number c.args.words.now)) all
