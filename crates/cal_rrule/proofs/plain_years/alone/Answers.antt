use Rattle.cal_rrule.proofs.MaskLemmas.{adds-day}
use Rattle.cal_rrule.proofs.PlainYearLemmas.{only-day}
use Rattle.cal_rrule.proofs.plain_years.alone.Goals as goal

pub returns-clause-days : goal.returns-clause-days
returns-clause-days c =
    let old = c.new-days.result in
    let new = c.insert_day.new.self in
    only-day old new c.args.day c.new-days.ensures.first c.new-days.ensures.none
    (adds-day old new c.args.day c.insert_day.ensures.first c.insert_day.ensures.days)
