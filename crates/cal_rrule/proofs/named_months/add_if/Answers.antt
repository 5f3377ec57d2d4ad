use Rattle.cal_rrule.specs.Looks.{IsNamedInYearMonth, look_stretch}
use Rattle.cal_rrule.proofs.MaskLemmas.{adds-if, adds-if_not}
use Rattle.cal_rrule.proofs.named_months.add_if.Goals as goal

pub returns-then-holds : goal.returns-then-holds
returns-then-holds c =
    let a = c.args.asked.now in
    adds-if c.args.days.now c.add_days_of_month.new.days c.args.holds
    (IsNamedInYearMonth a.rule a.day_of_month (look_stretch c.args.look.now)) c.if-holds.true c.add_days_of_month.ensures

pub returns-else-holds : goal.returns-else-holds
returns-else-holds c =
    let a = c.args.asked.now in
    adds-if_not c.args.days.now c.args.holds
    (IsNamedInYearMonth a.rule a.day_of_month (look_stretch c.args.look.now)) c.if-holds.false
