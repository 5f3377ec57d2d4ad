use Rattle.std.proofs.Common.{arith}
use Rattle.cal_rrule.specs.NamedDays.{stretch}
use Rattle.cal_rrule.proofs.WeekdayMaskLemmas.{weekday-week, weekday-weeks}
use Rattle.cal_rrule.proofs.weekday_masks.add_weekday.Goals as goal

pub loop-week-preserved : goal.loop-week-preserved
loop-week-preserved c =
    weekday-week c.args.set.now (stretch c.args.first c.args.length) c.args.offset c.loop-week.week
    c.args.days.now c.loop-week.days c.add_if_among.new.days c.loop-week.invariant c.add_if_among.ensures

pub returns : goal.returns
returns c =
    weekday-weeks c.args.set.now (stretch c.args.first c.args.length) c.args.offset c.loop-week.week
    c.args.days.now c.loop-week.days c.requires.offset
    (omega (arith, c.loop-week-test.false, c.loop-week.auto.week-end)) c.loop-week.invariant
