use Rattle.std.proofs.Common.{◌≡◌, ◌∙◌, ◌<◌, arith}
use Rattle.cal_days.proofs.Signed.{signed}
use Rattle.cal_rrule.proofs.LookLemmas.{look-marks}
use Rattle.cal_rrule.proofs.month_days.weekdays_of_month.Goals as goal

pub returns-clause-days : goal.returns-clause-days
returns-clause-days c = λ list is counts.
    let first : c.new.result ≡ c.args.look.now.first = omega (arith, signed) in
    let small : c.args.look.now.days < 256 = omega (arith, c.args.look.now.short) in
    look-marks list c.args.asked.now.rule c.args.look.now c.new-days.result c.add_weekdays_of_month.new.days is counts small
    (c.new-days.ensures.first ∙ first) c.new-days.ensures.none c.add_weekdays_of_month.ensures

pub returns-clause-first : goal.returns-clause-first
returns-clause-first c =
    let first : c.new.result ≡ c.args.look.now.first = omega (arith, signed) in
    c.add_weekdays_of_month.ensures.first ∙ c.new-days.ensures.first ∙ first
