use Rattle.std.proofs.Common.{rules}
use Rattle.cal_rule.proofs.BitLemmas.{front-set, back-set}
use Rattle.cal_rule.proofs.weekday_places.WeekdayPlaces.insert_place.Goals as goal

pub returns-in-FromFront : goal.returns-in-FromFront
returns-in-FromFront c = λ w.
    let day = c.days_since_sunday-days.ensures.value in
    rw c.in-FromFront.is (front-set c.args.self.now _ c.in-FromFront.number _ w c.args.day day (search rules) c.with_bit.ensures)

pub returns-in-FromBack : goal.returns-in-FromBack
returns-in-FromBack c = λ w.
    let day = c.days_since_sunday-days.ensures.value in
    let more = c.with_bit-in-FromBack.ensures in
    rw c.in-FromBack.is (back-set c.args.self.now _ c.in-FromBack.number _ w c.args.day day (search rules) more)
