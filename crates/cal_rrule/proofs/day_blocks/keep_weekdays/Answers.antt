use Rattle.std.proofs.Common.{◌≡◌, ◌<ℤ◌, ◌+ℤ◌, pos, true, false, rules, arith}
use Rattle.cal_days.proofs.Signed.{signed}
use Rattle.cal_rrule.specs.Periods.{IsOfWeekdays, NoWeekdays}
use Rattle.cal_rrule.proofs.AskedLemmas.{there-by}
use Rattle.cal_rrule.proofs.DayBlockLemmas.{keep-all, keep-some}
use Rattle.recurrence_sets.specs.PeriodBits.{has_day}
use Rattle.cal_rrule.proofs.day_blocks.keep_weekdays.Goals as goal

pub returns-then-asked-clause-days : goal.returns-then-asked-clause-days
returns-then-asked-clause-days c = λ list is counts n within.
    let a = c.args.asked.now in
    let lacks : a.missing.weekdays ≡ true = search rules in
    keep-all (has_day c.args.days.now n) (NoWeekdays a.rule) (IsOfWeekdays list a.rule n) (c.requires.missing.no_weekdays.0 lacks)

pub returns-clause-days : goal.returns-clause-days
returns-clause-days c = λ list is counts n within.
    let a = c.args.asked.now in
    let fails : a.missing.weekdays ≡ false = search rules in
    let marks = c.weekdays_of_month-named.ensures.days list is counts in
    let few : n <ℤ (c.args.days.now.first +ℤ pos 448) = omega (arith, signed, within.1, c.requires.first, c.args.look.now.short) in
    keep-some (has_day c.args.days.now n) (has_day c.weekdays_of_month-named.result n) (has_day c.keep_common.new.self n)
    (NoWeekdays a.rule) (IsOfWeekdays list a.rule n)
    (there-by (NoWeekdays a.rule) a.missing.weekdays c.requires.missing.no_weekdays fails)
    (c.keep_common.ensures.days n few) (marks.days n within.0 within.1)
