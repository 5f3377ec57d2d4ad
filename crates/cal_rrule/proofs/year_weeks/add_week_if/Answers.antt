use Rattle.std.proofs.Common.{◌≡◌, ◌*◌, ◌+ℤ◌, pos, arith}
use Rattle.cal_days.proofs.Signed.{signed}
use Rattle.cal_rrule.specs.YearWeeks.{IsInWeekAt}
use Rattle.cal_rrule.proofs.MaskLemmas.{adds-if, adds-if_not, adds-run}
use Rattle.cal_rrule.proofs.year_weeks.add_week_if.Goals as goal

pub returns-then-holds : goal.returns-then-holds
returns-then-holds c =
    let from : c.new.result ≡ c.args.first +ℤ pos (7 * c.args.place) = omega (arith, signed, c.requires) in
    let to : c.new-then-holds.result ≡ (c.args.first +ℤ pos (7 * c.args.place)) +ℤ pos 7 = omega (arith, signed, c.requires) in
    let adds = rw (from, to) at (adds-run c.args.days.now c.insert_days.new.self c.new.result c.new-then-holds.result c.insert_days.ensures.first c.insert_days.ensures.days) in
    adds-if c.args.days.now c.insert_days.new.self c.args.holds (IsInWeekAt c.args.first c.args.place) c.if-holds.true adds

pub returns-else-holds : goal.returns-else-holds
returns-else-holds c =
    adds-if_not c.args.days.now c.args.holds (IsInWeekAt c.args.first c.args.place) c.if-holds.false
