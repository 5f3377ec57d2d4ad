use Rattle.std.proofs.Common.{◌≡◌, ◌<ℤ◌, ◌+ℤ◌, pos, true, false, rules}
use Rattle.cal_rrule.specs.Periods.{IsOfMonths, NoMonths}
use Rattle.cal_rrule.proofs.AskedLemmas.{there-by}
use Rattle.cal_rrule.proofs.DayBlockLemmas.{keep-all, keep-some}
use Rattle.recurrence_sets.specs.PeriodBits.{has_day}
use Rattle.cal_rrule.proofs.WordLemmas.{span-row}
use Rattle.cal_rrule.proofs.span_masks.keep_months.Goals as goal

pub returns-then-asked-clause-days : goal.returns-then-asked-clause-days
returns-then-asked-clause-days g c = λ n above below.
    let list = (g.C.Calendar.system c.args.calendar.now).list in
    let a = c.args.asked.now in
    let lacks : a.missing.months ≡ true = search rules in
    keep-all (has_day c.args.days.now n) (NoMonths a.rule) (IsOfMonths list a.rule n) (c.requires.missing.no_months.0 lacks)

pub returns-clause-days : goal.returns-clause-days
returns-clause-days g c = λ n above below.
    let list = (g.C.Calendar.system c.args.calendar.now).list in
    let a = c.args.asked.now in
    let fails : a.missing.months ≡ false = search rules in
    let marks = c.days_of_months-named.ensures in
    let few : n <ℤ (c.args.days.now.first +ℤ pos 448) = span-row n c.args.days.now.first c.args.span.now.from c.args.span.now.to below c.requires.first c.args.span.now.few in
    keep-some (has_day c.args.days.now n) (has_day c.days_of_months-named.result n) (has_day c.keep_common.new.self n)
    (NoMonths a.rule) (IsOfMonths list a.rule n)
    (there-by (NoMonths a.rule) a.missing.months c.requires.missing.no_months fails)
    (c.keep_common.ensures.days n few) (marks.days n above below)
