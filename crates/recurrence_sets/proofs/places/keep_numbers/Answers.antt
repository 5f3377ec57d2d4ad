use Rattle.std.proofs.Common.{◌≡◌, ◌||◌, ◌&&◌, ◌==◌, Bool, sym, ap, ◌∙◌, arith}
use Rattle.cal_rule.specs.Sets.{has_number}
use Rattle.recurrence_sets.specs.Numbers.{has_position}
use Rattle.recurrence_sets.proofs.NumberLemmas.{count-few, count-rises, count-zero}
use Rattle.recurrence_sets.proofs.PlaceLemmas.{count-here, kept-all, kept-next, kept-none, position-is}
use Rattle.recurrence_sets.proofs.places.keep_numbers.Goals as goal

pub numbers-init : goal.numbers-init
numbers-init c = record {
  kept = kept-none (has_number c.args.kept.now)
      (λ i. has_number c.args.numbers.now i && has_position c.args.positions.now (has_number c.args.numbers.now) 448 i) c.requires;
  counted = sym (count-zero (has_number c.args.numbers.now));
  total = c.numbers_below-total.ensures;
  within = omega arith;
}

pub overflow_sub-total : goal.overflow_sub-total
overflow_sub-total c =
    omega (arith, c.numbers.invariant.counted, c.numbers.invariant.total, count-rises (has_number c.args.numbers.now) c.numbers.from 448 c.numbers.invariant.within)

pub is_position-requires-clause-before : goal.is_position-requires-clause-before
is_position-requires-clause-before c =
    omega (arith, c.numbers.invariant.counted, c.numbers.invariant.within, count-few (has_number c.args.numbers.now) c.numbers.from)

pub is_position-requires-clause-from : goal.is_position-requires-clause-from
is_position-requires-clause-from c = omega (arith, c.numbers.invariant.total, count-few (has_number c.args.numbers.now) 448)

pub overflow_add-before : goal.overflow_add-before
overflow_add-before c = omega (arith, c.numbers.invariant.counted, c.numbers.invariant.within, count-few (has_number c.args.numbers.now) c.numbers.from)

pub numbers-preserved : goal.numbers-preserved
numbers-preserved c =
    let f = has_number c.args.numbers.now in
    let positions = c.args.positions.now in
    let n = c.in-Some.number in
    let first = c.in-Some.ensures in
    let count = count-here f c.numbers.from n c.numbers.before first.reached first.passes first.least c.numbers.invariant.counted in
    let position : c.is_position.result ≡ has_position positions f 448 n =
    c.is_position.ensures ∙ position-is positions f n c.numbers.before c.numbers_below-total.result count.0 c.numbers.invariant.total in
    record {
      kept = kept-next f (has_position positions f 448) (has_number c.numbers.kept) (has_number c.add_if.new.words) c.numbers.from n first.reached first.passes first.least
          c.numbers.invariant.kept (λ i. c.add_if.ensures i ∙ ap (λ (b : Bool). (i == n && b) || has_number c.numbers.kept i) position);
      counted = count.1;
      total = c.numbers.invariant.total;
      within = omega (arith, first.within, c.told-numbers);
    }

pub returns : goal.returns
returns c =
    kept-all c.args.numbers.now c.told-numbers (has_position c.args.positions.now (has_number c.args.numbers.now) 448) (has_number c.numbers.kept)
    c.numbers.from c.in_default.ensures c.numbers.invariant.kept
