use Rattle.std.proofs.Common.{◌≡◌, arith}
use Rattle.cal_days.proofs.Signed.{signed}
use Rattle.cal_rrule.proofs.ApartLemmas.{week-unique}
use Rattle.cal_rrule.proofs.weeks_block.fourth_day.Goals as goal

pub returns : goal.returns
returns c = λ w is.
    let a = c.args.asked.now in
    let day : c.new.result ≡ a.day = omega (arith, signed, c.requires) in
    let week = rw (c.week_start.ensures, day) at c.week_of.ensures in
    let same : c.week_of.result ≡ w = week-unique a.rule.week_start a.day c.week_of.result w week is in
    omega (arith, signed, same, week.1, week.2, c.requires)
