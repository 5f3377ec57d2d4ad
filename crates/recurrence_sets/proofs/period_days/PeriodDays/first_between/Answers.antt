use Rattle.std.proofs.Common.{◌≡◌, ◌<◌, length, sym, subst, rules, arith}
use Rattle.std.specs.Prelude.{IsTrue}
use Rattle.recurrence_sets.specs.Days.{IsFirstBetween}
use Rattle.recurrence_sets.specs.PeriodBits.{has_day}
use Rattle.recurrence_sets.proofs.SetLemmas.{between-first, between-none, between-past}
use Rattle.cal_days.proofs.Signed.{signed}
use Rattle.recurrence_sets.proofs.period_days.PeriodDays.first_between.Goals as goal

pub returns-in_err-offset : goal.returns-in_err-offset
returns-in_err-offset c =
    let d = c.args.self.now in
    let long : length d.words ≡ 7 = search rules in
    subst (IsFirstBetween (λ n. IsTrue (has_day d n)) c.args.first c.args.last) (sym c.from_residual.ensures)
    (between-none d long c.args.first c.offset_of.result c.offset_of.ensures.before c.offset_of.ensures.from c.args.last c.in_err-offset.ensures)

pub returns-then-day-to_i64_date : goal.returns-then-day-to_i64_date
returns-then-day-to_i64_date c =
    let d = c.args.self.now in
    let long : length d.words ≡ 7 = search rules in
    let few : c.in_ok-offset.offset < 448 = omega (arith, long, c.in_ok-offset.ensures.within) in
    between-past d long c.args.first c.offset_of.result c.offset_of.ensures.before c.offset_of.ensures.from c.in_ok-offset.offset c.in_ok-offset.ensures c.args.last
    (omega (arith, signed, few, c.if-day-to_i64_date.true, c.to_i64_date.ensures.value, c.to_i64_date.ensures.range, c.to_i64_date-2.ensures.value, c.to_i64_date-2.ensures.range, c.from.ensures))

pub returns : goal.returns
returns c =
    let d = c.args.self.now in
    let long : length d.words ≡ 7 = search rules in
    let few : c.in_ok-offset.offset < 448 = omega (arith, long, c.in_ok-offset.ensures.within) in
    between-first d long c.args.first c.offset_of.result c.offset_of.ensures.before c.offset_of.ensures.from c.in_ok-offset.offset c.in_ok-offset.ensures c.args.last c.new.result
    (omega (arith, signed, few, c.new.ensures, c.to_i64_date.ensures.value, c.to_i64_date.ensures.range, c.from.ensures))
    (omega (arith, signed, few, c.new.ensures, c.if-day-to_i64_date.false, c.to_i64_date.ensures.value, c.to_i64_date.ensures.range, c.to_i64_date-2.ensures.value, c.to_i64_date-2.ensures.range, c.from.ensures))
