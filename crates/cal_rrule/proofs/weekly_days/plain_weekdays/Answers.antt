use Rattle.std.proofs.Common.{◌≡◌, ◌∙◌, ◌≤◌, ◌*◌, arith}
use Rattle.cal_days.proofs.Signed.{signed}
use Rattle.cal_rrule.specs.NamedDays.{stretch}
use Rattle.cal_rrule.proofs.WeeklyDayLemmas.{plain-marks, weekly-months}
use Rattle.cal_rrule.proofs.weekly_days.plain_weekdays.Goals as goal

pub returns : goal.returns
returns c = λ list law.
    let rule = c.args.asked.now.rule in
    let from = c.args.from in
    let first : c.new.result ≡ from = omega (arith, signed, c.requires.near) in
    let other : c.new-2.result ≡ from = omega (arith, signed, c.requires.near) in
    let few : 7 * c.args.weeks ≤ 448 = omega (arith, c.requires.few) in
    let adds = rw (c.weekdays.ensures, other) at c.add_weekdays.ensures in
    plain-marks list law rule (stretch from (7 * c.args.weeks)) c.new-days.result c.add_weekdays.new.days
    (weekly-months rule c.requires.weekly) c.requires.plain few (c.new-days.ensures.first ∙ first) c.new-days.ensures.none adds
