use Rattle.std.proofs.Common.{◌≡◌, ◌∙◌, ◌+◌, ◌*◌, pos, ◌+ℤ◌, sym, arith}
use mathlib.Core.Bool.{true≢false}
use Rattle.cal_days.proofs.Signed.{signed}
use Rattle.cal_rrule.specs.NamedDays.{stretch}
use Rattle.cal_rrule.proofs.MaskLemmas.{adds-day}
use Rattle.cal_rrule.proofs.WeekdayMaskLemmas.{weekday-no, weekday-yes}
use Rattle.cal_rrule.proofs.weekday_masks.add_if_among.Goals as goal

pub returns-then-is_among : goal.returns-then-is_among
returns-then-is_among c =
    let is : c.new.result ≡ c.args.first +ℤ pos (c.args.offset + 7 * c.args.week) = omega (arith, signed) in
    weekday-yes c.args.set.now (stretch c.args.first c.args.length) c.args.offset c.args.week
    c.args.days.now c.insert_day.new.self c.new.result
    (adds-day c.args.days.now c.insert_day.new.self c.new.result c.insert_day.ensures.first c.insert_day.ensures.days)
    is (c.is_among.ensures.0 c.if-is_among.true)

pub returns-else-is_among : goal.returns-else-is_among
returns-else-is_among c =
    weekday-no c.args.set.now (stretch c.args.first c.args.length) c.args.offset c.args.week c.args.days.now
    (λ h. true≢false (sym (c.is_among.ensures.1 h) ∙ c.if-is_among.false))
