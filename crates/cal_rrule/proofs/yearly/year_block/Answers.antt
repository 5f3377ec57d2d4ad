use Rattle.std.proofs.Common.{◌∙◌, ℕ, ◌*◌, ℤ, pos, ◌+ℤ◌, ◌≤ℤ◌, sym, ap, subst}
use Rattle.cal_types.specs.CalendarList.{IsOn, start_of_year}
use Rattle.cal_rrule.proofs.WordLemmas.{ends-low, found-most, found-near, year-order}
use Rattle.cal_rrule.proofs.YearStepLemmas.{starts-order, year-least}
use Rattle.cal_rrule.proofs.YearlyLemmas.{asked-year, few-periods, year-most, yearly-ended, yearly-set}
use Rattle.cal_rrule.proofs.yearly.year_block.Goals as goal

pub years_after-requires-clause-field : goal.years_after-requires-clause-field
years_after-requires-clause-field g c =
    let list = (g.C.Calendar.system c.args.calendar.now).list in
    let law = g.met.C.Calendar.lawful c.args.calendar.now in
    year-least list law (g.met.C.Calendar.ranged c.args.calendar.now) c.args.year.now c.args.asked.now.day
    c.requires.year c.requires.within c.requires.valid

pub years_after-requires-clause-low : goal.years_after-requires-clause-low
years_after-requires-clause-low g c = ends-low _ c.args.asked.now.day c.requires.within.1 c.requires.valid.0

pub returns-in-None-clause-days : goal.returns-in-None-clause-days
returns-in-None-clause-days g c = λ t is.
    let list = (g.C.Calendar.system c.args.calendar.now).list in
    let law = g.met.C.Calendar.lawful c.args.calendar.now in
    let a = c.args.asked.now in
    let year = c.args.year.now in
    let on : IsOn list a.day t = record { date = is.is_date; day = sym is.on_day } in
    let years = c.years_between-years.ensures ∙ ap (λ (e : ℕ). c.args.period * e) c.interval.ensures in
    yearly-ended list a.rule t c.requires.yearly c.requires.weeks law a.missing c.requires.missing year
    c.args.period c.years_between-years.result c.args.last (asked-year list year a.day t c.requires.year c.requires.within on)
    years c.in-None.ensures

pub days_of_year-days-requires-clause-near : goal.days_of_year-days-requires-clause-near
days_of_year-days-requires-clause-near g c =
    let list = (g.C.Calendar.system c.args.calendar.now).list in
    let year = c.args.year.now in
    let found = c.in-Some.ensures in
    let order = year-order year.year c.in-Some.found.year c.years_between-years.result found.1 in
    let starts = subst (λ (d : ℤ). d ≤ℤ start_of_year list c.in-Some.found.year) (sym c.requires.year.is_start)
    (starts-order list year.year c.in-Some.found.year order) in
    found-near c.in-Some.found.first _ year.first c.args.asked.now.day c.args.last year.days starts found.0.is_start c.requires.within.1
    year.short c.requires.valid found.2 c.requires.last

pub returns-in-Some-clause-days : goal.returns-in-Some-clause-days
returns-in-Some-clause-days g c = λ t is.
    let list = (g.C.Calendar.system c.args.calendar.now).list in
    let law = g.met.C.Calendar.lawful c.args.calendar.now in
    let a = c.args.asked.now in
    let year = c.args.year.now in
    let on : IsOn list a.day t = record { date = is.is_date; day = sym is.on_day } in
    let own = asked-year list year a.day t c.requires.year c.requires.within on in
    let years = c.years_between-years.ensures ∙ ap (λ (e : ℕ). c.args.period * e) c.interval.ensures in
    let at = c.in-Some.ensures.1 ∙ ap (λ (y : ℤ). y +ℤ pos c.years_between-years.result) (sym own) in
    let set = yearly-set list a.rule t c.requires.yearly c.requires.weeks law a.missing c.requires.missing
    c.args.period c.years_between-years.result c.in-Some.found.year c.days_of_year-days.result at years
    (c.days_of_year-days.ensures.exact t is) (c.days_of_year-days.ensures.within t is) c.days_of_year-days.ensures.row in
    λ n valid. c.keep_positions.ensures.kept list t c.args.period set n

pub returns-in-Some-clause-few : goal.returns-in-Some-clause-few
returns-in-Some-clause-few g c =
    let list = (g.C.Calendar.system c.args.calendar.now).list in
    let law = g.met.C.Calendar.lawful c.args.calendar.now in
    let ranged = g.met.C.Calendar.ranged c.args.calendar.now in
    let a = c.args.asked.now in
    let year = c.args.year.now in
    let found = c.in-Some.ensures in
    let years = c.years_between-years.ensures ∙ ap (λ (e : ℕ). c.args.period * e) c.interval.ensures in
    let least = year-least list law ranged year a.day c.requires.year c.requires.within c.requires.valid in
    let low = found-most _ c.in-Some.found.first c.args.last found.0.is_start found.2 c.requires.last in
    few-periods c.args.period a.rule.interval c.years_between-years.result year.year c.in-Some.found.year c.requires.every
    years found.1 least (year-most list law ranged c.in-Some.found.year low)
