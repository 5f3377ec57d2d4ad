use Rattle.std.proofs.Common.{◌≡◌, IsTrue, ap, sym, subst, ◌∙◌}
use Rattle.cal_types.specs.CalendarList.{IsOn, day_number}
use Rattle.icu_calendar.proofs.OrderLemmas.{on_same_day, same_date-equal}
use Rattle.icu_calendar.proofs.laws.back_from_another_calendar.Goals as goal

pub returns-clause-same_date : goal.returns-clause-same_date
returns-clause-same_date g c =
    let date = c.args.date.now in
    let calendar = g.A.AsCalendar.cal_of date.calendar in
    let list = (g.A.Calendar.Calendar.system calendar).list in
    let t = g.A.Calendar.Calendar.date_of calendar date.inner in
    let there = c.to_calendar-there.result in
    let result = c.to_calendar.result in
    let day = subst (λ k. day_number (g.B.Calendar.Calendar.system (g.B.AsCalendar.cal_of k)).list (g.B.Calendar.Calendar.date_of (g.B.AsCalendar.cal_of k) there.inner) ≡ day_number list t) (sym c.to_calendar-there.ensures.calendar) c.to_calendar-there.ensures.on.day in
    let shown = g.B.AsCalendar.cal_of there.calendar in
    let number = day_number (g.B.Calendar.Calendar.system shown).list (g.B.Calendar.Calendar.date_of shown there.inner) in
    let on = subst (λ k. IsOn (g.A.Calendar.Calendar.system (g.A.AsCalendar.cal_of k)).list number (g.A.Calendar.Calendar.date_of (g.A.AsCalendar.cal_of k) result.inner)) c.calendar_wrapper.ensures c.to_calendar.ensures.on in
    on_same_day list number t (g.A.Calendar.Calendar.date_of calendar result.inner) (g.met.A.Calendar.Calendar.dated calendar date.inner date.belongs).date day on

pub returns-clause-equal : goal.returns-clause-equal
returns-clause-equal g c =
    let date = c.args.date.now in
    let calendar = g.A.AsCalendar.cal_of date.calendar in
    let list = (g.A.Calendar.Calendar.system calendar).list in
    let result = c.to_calendar.result in
    let here = subst (λ k. IsTrue (g.A.Calendar.Calendar.belongs (g.A.AsCalendar.cal_of k) result.inner)) (ap (λ r. r.0.now) c.to_calendar.ensures.calendar ∙ c.calendar_wrapper.ensures) result.belongs in
    same_date-equal list (g.A.Calendar.Calendar.date_of calendar result.inner) (g.A.Calendar.Calendar.date_of calendar date.inner) _
    (g.met.A.Calendar.Calendar.equal_days calendar result.inner date.inner here date.belongs)
    (returns-clause-same_date g c)
