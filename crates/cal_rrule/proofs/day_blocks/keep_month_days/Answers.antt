use Rattle.std.proofs.Common.{◌≡◌, ◌∙◌, ◌<ℤ◌, ◌+ℤ◌, pos, true, false, rules, arith}
use Rattle.cal_days.proofs.Signed.{signed}
use Rattle.cal_rrule.specs.Periods.{IsOfMonthDays, NoMonthDays}
use Rattle.cal_rrule.proofs.AskedLemmas.{there-by}
use Rattle.cal_rrule.proofs.DayBlockLemmas.{keep-all, keep-some, named-marks}
use Rattle.recurrence_sets.specs.PeriodBits.{has_day}
use Rattle.cal_rrule.proofs.day_blocks.keep_month_days.Goals as goal

pub returns-then-asked-clause-days : goal.returns-then-asked-clause-days
returns-then-asked-clause-days c = λ list is n within.
    let a = c.args.asked.now in
    let lacks : a.missing.month_days ≡ true = search rules in
    keep-all (has_day c.args.days.now n) (NoMonthDays a.rule) (IsOfMonthDays list a.rule n) (c.requires.missing.no_month_days.0 lacks)

pub returns-clause-days : goal.returns-clause-days
returns-clause-days c = λ list is n within.
    let a = c.args.asked.now in
    let look = c.args.look.now in
    let fails : a.missing.month_days ≡ false = search rules in
    let first : c.new-first.result ≡ look.first = omega (arith, signed) in
    let few : n <ℤ (c.args.days.now.first +ℤ pos 448) = omega (arith, signed, within.1, c.requires.first, look.short) in
    let adds = rw (c.month_days.ensures, first, c.from.ensures) at c.add_month_days.ensures in
    keep-some (has_day c.args.days.now n) (has_day c.add_month_days.new.days n) (has_day c.keep_common.new.self n)
    (NoMonthDays a.rule) (IsOfMonthDays list a.rule n)
    (there-by (NoMonthDays a.rule) a.missing.month_days c.requires.missing.no_month_days fails)
    (c.keep_common.ensures.days n few)
    (named-marks list a.rule look c.new-named.result c.add_month_days.new.days n is within look.short
    (c.new-named.ensures.first ∙ first) c.new-named.ensures.none adds)
