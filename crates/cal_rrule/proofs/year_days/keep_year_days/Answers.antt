use Rattle.std.proofs.Common.{◌≡◌, ◌<ℤ◌, ◌+ℤ◌, pos, true, false, rules}
use Rattle.cal_rrule.specs.Periods.{IsYearDay, NoYearDays}
use Rattle.cal_rrule.proofs.AskedLemmas.{there-by}
use Rattle.cal_rrule.proofs.DayBlockLemmas.{keep-all, keep-some}
use Rattle.recurrence_sets.specs.PeriodBits.{has_day}
use Rattle.cal_rrule.proofs.WordLemmas.{span-row}
use Rattle.cal_rrule.proofs.year_days.keep_year_days.Goals as goal

pub returns-then-asked-clause-days : goal.returns-then-asked-clause-days
returns-then-asked-clause-days c = λ list is n above below.
    let a = c.args.asked.now in
    let lacks : a.missing.year_days ≡ true = search rules in
    keep-all (has_day c.args.days.now n) (NoYearDays a.rule) (IsYearDay list a.rule c.args.year.now.year n)
    (c.requires.missing.no_year_days.0 lacks)

pub returns-clause-days : goal.returns-clause-days
returns-clause-days c = λ list is n above below.
    let a = c.args.asked.now in
    let fails : a.missing.year_days ≡ false = search rules in
    let marks = c.days_by_number-named.ensures.days list is in
    let few : n <ℤ (c.args.days.now.first +ℤ pos 448) = span-row n c.args.days.now.first c.args.span.now.from c.args.span.now.to below c.requires.first c.args.span.now.few in
    keep-some (has_day c.args.days.now n) (has_day c.days_by_number-named.result n) (has_day c.keep_common.new.self n)
    (NoYearDays a.rule) (IsYearDay list a.rule c.args.year.now.year n)
    (there-by (NoYearDays a.rule) a.missing.year_days c.requires.missing.no_year_days fails)
    (c.keep_common.ensures.days n few) (marks.days n above below)
