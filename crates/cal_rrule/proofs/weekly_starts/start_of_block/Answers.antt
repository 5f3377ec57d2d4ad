use Rattle.std.proofs.Common.{◌≡◌, ◌+ℤ◌, arith, to_z, of_z, w64}
use Rattle.cal_days.proofs.Signed.{signed}
use Rattle.cal_rrule.specs.Weekly.{block_start}
use Rattle.cal_rrule.proofs.ApartLemmas.{week-unique}
use Rattle.cal_rrule.proofs.WeeklyStartLemmas.{start-found, start-none}
use Rattle.cal_rrule.proofs.weekly_starts.start_of_block.Goals as goal

pub returns-in-None : goal.returns-in-None
returns-in-None c = λ w is.
    let a = c.args.asked.now in
    let none = rw c.interval.ensures at c.in-None.ensures in
    start-none a.day c.args.last w a.rule.interval c.args.block c.requires.valid c.requires.last is.2 none

pub returns-in-Some : goal.returns-in-Some
returns-in-Some c = λ w is.
    let a = c.args.asked.now in
    let some = rw c.interval.ensures at c.in-Some.ensures in
    let day : c.new.result ≡ a.day = omega (arith, signed) in
    let week = rw (c.week_start.ensures, day) at c.week_of-week.ensures in
    let same : c.week_of-week.result ≡ w = week-unique a.rule.week_start a.day c.week_of-week.result w week is in
    let ends : to_z w64 (of_z w64 c.to_i64_date.result) ≡ c.args.last =
    omega (arith, signed, c.to_i64_date.ensures.value, c.requires.last) in
    let at : to_z w64 (of_z w64 (to_z w64 (of_z w64 c.week_of-week.result) +ℤ to_z w64 (of_z w64 c.in-Some.days)))
    ≡ block_start w a.rule.interval c.args.block =
    omega (arith, signed, same, some.0, some.1, week.1, week.2, c.requires.valid) in
    start-found w c.args.last _ a.rule.interval c.args.block c.up_to.result at some.2 (rw ends at c.up_to.ensures)
