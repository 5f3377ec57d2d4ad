use Rattle.std.proofs.Common.{◌≡◌, ◌≤ℤ◌, ◌+ℤ◌, pos, arith}
use Rattle.cal_days.proofs.Signed.{signed}
use Rattle.cal_rrule.specs.Looks.{look_stretch}
use Rattle.cal_rrule.specs.Stretches.{end_of}
use Rattle.cal_rrule.proofs.DayBlockLemmas.{interval-marks}
use Rattle.cal_rrule.proofs.day_blocks.interval_in_month.Goals as goal

pub returns : goal.returns
returns c =
    let look = c.args.look.now in
    let first : c.new-first.result ≡ look.first = omega (arith, signed) in
    let to : c.new.result ≡ end_of (look_stretch look) = omega (arith, signed, c.end.ensures) in
    let start : c.new-start.result ≡ c.args.asked.now.day = omega (arith, signed) in
    let few : c.new.result ≤ℤ (c.new-first.result +ℤ pos 448) = omega (arith, signed, first, to, look.short) in
    rw (first, to, start, c.interval.ensures) at
    (interval-marks c.new-days.result c.add_interval.new.days c.new-start.result c.new-first.result c.new.result c.interval.result
    c.new-days.ensures.first c.new-days.ensures.none c.add_interval.ensures few)
