use Rattle.std.proofs.Common.{◌≡◌, ◌∙◌, ◌*◌, ◌≤◌, ◌<◌, ℕ, None, pos, ap, subst}
use Rattle.cal_types.specs.CalendarList.{IsMonthsAfter}
use Rattle.cal_rrule.specs.Looks.{IsMonthReached}
use Rattle.cal_rrule.proofs.MonthBlockLemmas.{ended-none, few-periods, some-any, to-start}
use Rattle.cal_rrule.proofs.monthly.month_block.Goals as goal

pub returns-in-None-clause-days : goal.returns-in-None-clause-days
returns-in-None-clause-days g c = λ t is.
    let list = (g.C.Calendar.system c.args.calendar.now).list in
    let law = g.met.C.Calendar.lawful c.args.calendar.now in
    let a = c.args.asked.now in
    let same : c.months_of_periods-months.result ≡ c.args.period * a.rule.interval =
    c.months_of_periods-months.ensures ∙ ap (λ (e : ℕ). c.args.period * e) c.interval.ensures in
    ended-none list law a.rule c.requires.monthly t a.month is.in_year is.in_place c.args.period c.args.last
    (subst (λ (m : ℕ). IsMonthReached list a.month m None) same c.in-None.ensures.reached)

pub returns-in-Some-clause-days : goal.returns-in-Some-clause-days
returns-in-Some-clause-days g c = λ t is.
    let list = (g.C.Calendar.system c.args.calendar.now).list in
    let law = g.met.C.Calendar.lawful c.args.calendar.now in
    let a = c.args.asked.now in
    let look = c.in-Some.look in
    let same : c.months_of_periods-months.result ≡ c.args.period * a.rule.interval =
    c.months_of_periods-months.ensures ∙ ap (λ (e : ℕ). c.args.period * e) c.interval.ensures in
    c.block_of_month.ensures t c.args.period is
    (to-start list law a.rule c.requires.monthly t a.month is.in_year is.in_place (c.args.period * a.rule.interval) look.year look.place
    (subst (λ (m : ℕ). IsMonthsAfter list a.month.year a.month.place (pos m) look.year look.place) same c.in-Some.ensures.reached.1))

pub returns-in-Some-clause-few : goal.returns-in-Some-clause-few
returns-in-Some-clause-few g c =
    let a = c.args.asked.now in
    let same : c.months_of_periods-months.result ≡ c.args.period * a.rule.interval =
    c.months_of_periods-months.ensures ∙ ap (λ (e : ℕ). c.args.period * e) c.interval.ensures in
    some-any (c.args.period < 4294967295) c.block_of_month.result
    (few-periods c.args.period a.rule.interval c.requires.every (subst (λ (m : ℕ). m ≤ 27040001) same c.in-Some.ensures.few))
