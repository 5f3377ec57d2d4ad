use Rattle.std.proofs.Common.{arith}
use Rattle.cal_rrule.specs.NamedDays.{stretch}
use Rattle.cal_rrule.proofs.WeekdayMaskLemmas.{weekday-all, weekday-more}
use Rattle.cal_rrule.proofs.weekday_masks.add_weekdays.Goals as goal

pub loop-offset-preserved : goal.loop-offset-preserved
loop-offset-preserved c =
    weekday-more c.args.set.now (stretch c.args.first c.args.length) c.loop-offset.offset
    c.args.days.now c.loop-offset.days c.add_weekday.new.days c.loop-offset.invariant c.add_weekday.ensures

pub returns : goal.returns
returns c =
    weekday-all c.args.set.now (stretch c.args.first c.args.length) c.loop-offset.offset
    c.args.days.now c.loop-offset.days (omega (arith, c.loop-offset-test.false, c.loop-offset.auto.offset-end))
    c.loop-offset.invariant
