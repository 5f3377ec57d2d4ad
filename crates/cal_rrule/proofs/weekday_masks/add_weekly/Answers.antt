use Rattle.std.proofs.Common.{◌≡◌, ◌*◌, pos, ◌+ℤ◌, arith}
use Rattle.cal_days.proofs.Signed.{signed}
use Rattle.cal_rrule.proofs.MaskLemmas.{adds-day}
use Rattle.cal_rrule.proofs.WeekdayMaskLemmas.{step-more}
use Rattle.cal_rrule.proofs.weekday_masks.add_weekly.Goals as goal

pub loop-step-preserved : goal.loop-step-preserved
loop-step-preserved c =
    let is : c.new.result ≡ c.args.from +ℤ pos (7 * c.loop-step.step) = omega (arith, signed) in
    step-more c.args.days.now c.loop-step.days c.insert_day.new.self c.args.from c.new.result 7 c.loop-step.step
    c.loop-step.invariant
    (adds-day c.loop-step.days c.insert_day.new.self c.new.result c.insert_day.ensures.first c.insert_day.ensures.days) is
