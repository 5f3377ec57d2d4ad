use Rattle.std.proofs.Common.{◌∙◌, ◌+ℤ◌, ◌*◌, pos, sym}
use Rattle.cal_rrule.proofs.WeeklyDayLemmas.{weekly-kept}
use Rattle.cal_rrule.proofs.WordLemmas.{from-word}
use Rattle.cal_rrule.proofs.weekly_days.weekly_days.Goals as goal

pub keep_months-requires-clause-first : goal.keep_months-requires-clause-first
keep_months-requires-clause-first g c = c.weekdays_of_weeks-days.ensures.first ∙ sym c.span_of_weeks.ensures.0

pub returns : goal.returns
returns g c =
    let list = (g.C.Calendar.system c.args.calendar.now).list in
    let a = c.args.asked.now in
    let same = from-word c.args.from c.requires.low c.requires.high in
    let span = rw same at c.span_of_weeks.ensures in
    let kept = rw (span.0, span.1) at c.keep_months.ensures.days in
    weekly-kept list a.rule a.day c.args.from (c.args.from +ℤ pos (7 * c.args.weeks)) c.keep_months.new.days
    c.weekdays_of_weeks-days.result (rw same at c.weekdays_of_weeks-days.ensures) c.keep_months.ensures.first kept
