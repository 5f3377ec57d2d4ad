use Rattle.std.proofs.Common.{◌≡◌, ℕ, ◌+◌, ◌*◌, ◌≤ℤ◌, ◌<ℤ◌, pos, ◌+ℤ◌, ap, subst, arith, to_z, w64}
use Rattle.cal_days.proofs.Signed.{signed}
use Rattle.cal_rrule.specs.Masks.{Adds, IsIntervalBelow}
use Rattle.cal_rrule.proofs.IntervalLemmas.{interval-all, interval-more, interval-none, next-step}
use Rattle.cal_rrule.proofs.MaskLemmas.{adds-day}
use Rattle.cal_rrule.proofs.intervals.add_interval.Goals as goal

pub loop-day-init : goal.loop-day-init
loop-day-init c =
    let steps = c.steps_to-steps.result in
    let none : steps + 0 ≡ steps = omega arith in
    let product : (steps + 0) * c.args.every ≡ steps * c.args.every = ap (λ (m : ℕ). m * c.args.every) none in (
      0,
      omega (arith, signed, product, c.days_of_steps.ensures, c.steps_to-steps.ensures.few, c.requires.start, c.to_i64_date.ensures.value),
      interval-none c.args.days.now c.args.start c.args.to c.args.every steps (steps + 0) (omega arith),
    )

pub new-requires : goal.new-requires
new-requires c =
    let inv = c.loop-day.invariant in (
      omega (arith, signed, inv.1, c.requires.start),
      omega (arith, signed, c.loop-day-test.true, c.to_i64_date-end.ensures.value, c.requires.to),
    )

pub loop-day-smaller : goal.loop-day-smaller
loop-day-smaller c =
    omega (arith, signed, c.loop-day.invariant.1, c.loop-day-test.true, c.requires.every, c.requires.start, c.requires.to, c.from-day.ensures, c.to_i64_date-end.ensures.value)

pub loop-day-preserved : goal.loop-day-preserved
loop-day-preserved c =
    let steps = c.steps_to-steps.result in
    let inv = c.loop-day.invariant in
    let high = steps + inv.0 in
    let is : c.new.result ≡ c.args.start +ℤ pos ((steps + inv.0) * c.args.every) = omega (arith, signed, inv.1, c.new.ensures) in
    let below : c.new.result <ℤ c.args.to = omega (arith, signed, c.loop-day-test.true, c.new.ensures, c.to_i64_date-end.ensures.value) in
    let more = interval-more c.args.days.now c.loop-day.days c.insert_day.new.self c.args.start c.args.to c.new.result c.args.every steps (steps + inv.0)
    inv.2 (adds-day c.loop-day.days c.insert_day.new.self c.new.result c.insert_day.ensures.first c.insert_day.ensures.days)
    is (omega arith) below in
    let regroup : (steps + inv.0) + 1 ≡ steps + (inv.0 + 1) = omega arith in (
      inv.0 + 1,
      omega (arith, signed, inv.1, next-step steps inv.0 c.args.every, c.from-day.ensures, c.requires.start, c.requires.to, c.loop-day-test.true, c.to_i64_date-end.ensures.value),
      subst (λ (m : ℕ). Adds c.args.days.now c.insert_day.new.self (IsIntervalBelow c.args.start c.args.every steps m c.args.to)) regroup more,
    )

pub returns : goal.returns
returns c =
    let steps = c.steps_to-steps.result in
    let inv = c.loop-day.invariant in
    let past : c.args.to ≤ℤ to_z w64 c.loop-day.day-bits = omega (arith, signed, c.loop-day-test.false, c.to_i64_date-end.ensures.value) in
    interval-all c.args.days.now c.loop-day.days c.args.start c.args.from c.args.to (to_z w64 c.loop-day.day-bits) c.args.every steps (steps + inv.0)
    inv.2 c.steps_to-steps.ensures.reached c.steps_to-steps.ensures.least inv.1 past
