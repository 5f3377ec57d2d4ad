use Rattle.cal_rrule.specs.NamedDays.{stretch}
use Rattle.cal_rrule.proofs.NamedMaskLemmas.{named-more}
use Rattle.cal_rrule.proofs.named_masks.add_named_below.Goals as goal

pub loop-number-preserved : goal.loop-number-preserved
loop-number-preserved g c =
    named-more c.args.set.now c.args.skip (stretch c.args.first c.args.length) c.loop-number.number
    c.args.days.now c.loop-number.days c.add_named_in.new.days c.add_named_in-in-loop-number.new.days
    c.loop-number.invariant c.add_named_in.ensures c.add_named_in-in-loop-number.ensures
