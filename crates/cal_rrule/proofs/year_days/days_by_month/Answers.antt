use Rattle.std.proofs.Common.{◌≡◌, ◌∙◌, sym}
use mathlib.Core.Bool.{true≢false}
use Rattle.cal_types.specs.MonthParts.{month_parts}
use Rattle.cal_rrule.specs.YearMonths.{IsOfYearMonths, IsYearMonthDayOf}
use Rattle.cal_rrule.proofs.MaskLemmas.{adds-run}
use Rattle.cal_rrule.proofs.MonthDayLemmas.{marks-as}
use Rattle.cal_rrule.proofs.WordLemmas.{span-from, span-to}
use Rattle.cal_rrule.proofs.YearDayLemmas.{all-marks, free-test, month-days, month-free}
use Rattle.cal_rrule.proofs.year_days.days_by_month.Goals as goal

pub returns-then-missing : goal.returns-then-missing
returns-then-missing g c =
    let list = (g.C.Calendar.system c.args.calendar.now).list in
    let a = c.args.asked.now in
    let start = month_parts a.month.month in
    let year = c.args.year.now in
    let span = c.args.span.now in
    let same = span-from span.from span.to span.low span.order span.high in
    let first : c.new.result ≡ span.from = c.new.ensures ∙ same in
    let from : c.new-then-missing.result ≡ span.from = c.new-then-missing.ensures ∙ same in
    let to : c.new-then-missing-2.result ≡ span.to = c.new-then-missing-2.ensures ∙ span-to span.from span.to span.low span.order span.high in
    let free = (free-test a.rule a.missing c.requires.missing).0 c.if-missing.true in
    all-marks c.new-days.result c.insert_days.new.self span.from span.to
    (IsYearMonthDayOf list a.rule start a.day_of_month year.year)
    (c.new-days.ensures.first ∙ first) c.new-days.ensures.none
    (rw (from, to) at (adds-run c.new-days.result c.insert_days.new.self c.new-then-missing.result c.new-then-missing-2.result c.insert_days.ensures.first c.insert_days.ensures.days))
    span.few
    (month-free list a.rule a.missing c.requires.missing start a.day_of_month year.year free.0.0 free.0.1 free.1)

pub returns : goal.returns
returns g c =
    let list = (g.C.Calendar.system c.args.calendar.now).list in
    let a = c.args.asked.now in
    let start = month_parts a.month.month in
    let year = c.args.year.now in
    let span = c.args.span.now in
    let test = free-test a.rule a.missing c.requires.missing in
    marks-as c.days_in_months.result span.from span.to (IsOfYearMonths list a.rule start a.day_of_month year.year)
    (IsYearMonthDayOf list a.rule start a.day_of_month year.year) c.days_in_months.ensures
    (month-days list a.rule a.missing c.requires.missing start a.day_of_month year.year
    (λ free. true≢false (sym (test.1 free) ∙ c.if-missing.false)))
