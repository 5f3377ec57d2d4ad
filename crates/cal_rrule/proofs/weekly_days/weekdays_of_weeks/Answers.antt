use Rattle.std.proofs.Common.{◌≡◌, ◌+ℤ◌, ◌*◌, pos, true, false, rules}
use Rattle.cal_rrule.specs.Periods.{NoWeekdays}
use Rattle.cal_rrule.proofs.AskedLemmas.{there-by}
use Rattle.cal_rrule.proofs.WeeklyDayLemmas.{weekday-rule, weekday-start}
use Rattle.cal_rrule.proofs.WordLemmas.{from-word}
use Rattle.cal_rrule.proofs.weekly_days.weekdays_of_weeks.Goals as goal

pub returns-then-asked : goal.returns-then-asked
returns-then-asked g c =
    let list = (g.C.Calendar.system c.args.calendar.now).list in
    let a = c.args.asked.now in
    let same = from-word c.args.from c.requires.low c.requires.high in
    let lacks : a.missing.weekdays ≡ true = search rules in
    weekday-start list a.rule a.day c.args.from (c.args.from +ℤ pos (7 * c.args.weeks)) c.same_weekdays.result
    (c.requires.missing.no_weekdays.0 lacks) (rw same at c.same_weekdays.ensures)

pub returns : goal.returns
returns g c =
    let list = (g.C.Calendar.system c.args.calendar.now).list in
    let a = c.args.asked.now in
    let same = from-word c.args.from c.requires.low c.requires.high in
    let fails : a.missing.weekdays ≡ false = search rules in
    weekday-rule list a.rule a.day c.args.from (c.args.from +ℤ pos (7 * c.args.weeks)) c.rule_weekdays.result
    (there-by (NoWeekdays a.rule) a.missing.weekdays c.requires.missing.no_weekdays fails) (rw same at c.rule_weekdays.ensures)
