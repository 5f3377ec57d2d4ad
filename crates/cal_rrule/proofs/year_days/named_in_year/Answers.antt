use Rattle.std.proofs.Common.{◌∙◌}
use Rattle.cal_types.specs.MonthParts.{month_parts}
use Rattle.cal_rrule.proofs.AskingLemmas.{asked-month}
use Rattle.cal_rrule.proofs.YearDayLemmas.{named-marks}
use Rattle.cal_rrule.proofs.year_days.named_in_year.Goals as goal

pub returns : goal.returns
returns g c = λ t is.
    let list = (g.C.Calendar.system c.args.calendar.now).list in
    let a = c.args.asked.now in
    let span = c.args.span.now in
    named-marks list a.rule t c.args.year.now.year (month_parts a.month.month) a.day_of_month
    c.days_by_month-days.result c.keep_year_days.new.days c.keep_weekdays.new.days span.from span.to
    (asked-month list t a is) is.on_day_of_month c.days_by_month-days.ensures
    c.keep_year_days.ensures.first c.keep_weekdays.ensures.first
    (c.keep_year_days.ensures.days list c.requires.year) c.keep_weekdays.ensures.days

pub keep_year_days-requires-clause-first : goal.keep_year_days-requires-clause-first
keep_year_days-requires-clause-first g c = c.days_by_month-days.ensures.first

pub keep_weekdays-requires-clause-first : goal.keep_weekdays-requires-clause-first
keep_weekdays-requires-clause-first g c = c.keep_year_days.ensures.first ∙ c.days_by_month-days.ensures.first
