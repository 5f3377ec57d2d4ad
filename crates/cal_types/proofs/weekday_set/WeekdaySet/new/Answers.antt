use Rattle.std.proofs.Common.{arith, rules}
use Rattle.cal_types.proofs.WeekdayLemmas.{held-more}
use Rattle.cal_types.proofs.weekday_set.WeekdaySet.new.Goals as goal

pub loop-i-preserved : goal.loop-i-preserved
loop-i-preserved c =
    let place = c.days_since_sunday.ensures in
    record {
      within = search rules;
      size = search rules;
      held = λ day. held-more c.loop-i.held c.args.days.now c.loop-i.i _ _ day place.value
          (omega (arith, place.bound, c.loop-i.invariant.size)) (search rules) (c.loop-i.invariant.held day);
    }
