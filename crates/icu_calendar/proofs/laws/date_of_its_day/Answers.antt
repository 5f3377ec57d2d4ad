use Rattle.std.proofs.Common.{IsTrue, ap, subst, ◌∙◌}
use Rattle.cal_types.specs.CalendarList.{IsOn}
use Rattle.icu_calendar.specs.Clamping.{clamped_day}
use Rattle.icu_calendar.proofs.OrderLemmas.{on_its_day, same_date-equal}
use Rattle.icu_calendar.proofs.laws.date_of_its_day.Goals as goal

pub returns-clause-same_date : goal.returns-clause-same_date
returns-clause-same_date g c =
    let date = c.args.date.now in
    let calendar = g.A.AsCalendar.cal_of date.calendar in
    let list = (g.A.Calendar.Calendar.system calendar).list in
    let result = c.from_rata_die.result in
    let on = subst (λ k. IsOn (g.A.Calendar.Calendar.system (g.A.AsCalendar.cal_of k)).list (clamped_day c.to_rata_die.result) (g.A.Calendar.Calendar.date_of (g.A.AsCalendar.cal_of k) result.inner)) c.calendar_wrapper.ensures c.from_rata_die.ensures.on in
    on_its_day list c.to_rata_die.result (g.A.Calendar.Calendar.date_of calendar date.inner) (g.A.Calendar.Calendar.date_of calendar result.inner) (g.met.A.Calendar.Calendar.dated calendar date.inner date.belongs) c.to_rata_die.ensures on

pub returns-clause-equal : goal.returns-clause-equal
returns-clause-equal g c =
    let date = c.args.date.now in
    let calendar = g.A.AsCalendar.cal_of date.calendar in
    let list = (g.A.Calendar.Calendar.system calendar).list in
    let result = c.from_rata_die.result in
    let here = subst (λ k. IsTrue (g.A.Calendar.Calendar.belongs (g.A.AsCalendar.cal_of k) result.inner)) (ap (λ r. r.0.now) c.from_rata_die.ensures.calendar ∙ c.calendar_wrapper.ensures) result.belongs in
    same_date-equal list (g.A.Calendar.Calendar.date_of calendar result.inner) (g.A.Calendar.Calendar.date_of calendar date.inner) _
    (g.met.A.Calendar.Calendar.equal_days calendar result.inner date.inner here date.belongs)
    (returns-clause-same_date g c)
