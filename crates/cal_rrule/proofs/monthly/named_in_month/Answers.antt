use Rattle.std.proofs.Common.{◌≡◌, ◌+ℤ◌, ◌-ℤ◌, pos, false, true, rules}
use Rattle.cal_rrule.specs.Looks.{look_stretch}
use Rattle.cal_rrule.specs.Periods.{NoWeekdays}
use Rattle.cal_rrule.specs.Stretches.{end_of}
use Rattle.cal_rrule.proofs.AskedLemmas.{there-by}
use Rattle.cal_rrule.proofs.MonthDayLemmas.{month-plain, month-weekdays}
use Rattle.cal_rrule.proofs.WordLemmas.{month-row}
use Rattle.cal_rrule.proofs.monthly.named_in_month.Goals as goal

pub returns-then-asked : goal.returns-then-asked
returns-then-asked g c = λ t same.
    let list = (g.C.Calendar.system c.args.calendar.now).list in
    let a = c.args.asked.now in
    let look = c.args.look.now in
    let lacks : a.missing.weekdays ≡ true = search rules in
    month-plain list a.rule t look c.requires.look c.kept_of_month-days.result a.day_of_month
    (look.first -ℤ pos 1) (end_of (look_stretch look) +ℤ pos 1) same
    (c.requires.missing.no_weekdays.0 lacks) c.kept_of_month-days.ensures

pub returns : goal.returns
returns g c = λ t same.
    let list = (g.C.Calendar.system c.args.calendar.now).list in
    let a = c.args.asked.now in
    let look = c.args.look.now in
    let fails : a.missing.weekdays ≡ false = search rules in
    let few = month-row look.first look.days look.short in
    month-weekdays list a.rule t look c.requires.look a.missing c.kept_of_month-days.result c.weekdays_about-weekdays.result c.keep_common.new.self a.day_of_month
    (look.first -ℤ pos 1) (end_of (look_stretch look) +ℤ pos 1) c.requires.missing same
    (there-by (NoWeekdays a.rule) a.missing.weekdays c.requires.missing.no_weekdays fails) few
    c.kept_of_month-days.ensures c.weekdays_about-weekdays.ensures.days c.keep_common.ensures.first c.keep_common.ensures.days
