use Rattle.std.proofs.Common.{◌≡◌, ◌∙◌, ◌↔◌, ℤ, subst, sym}
use Rattle.cal_days.specs.Day.{IsValidDay}
use Rattle.cal_types.specs.CalendarList.{IsOn, day_number}
use Rattle.cal_rrule.specs.Blocks.{IsOfBlock, start_of}
use Rattle.cal_rrule.specs.Listing.{AreDayItems, AreLeftOf}
use Rattle.cal_rrule.specs.Occurrences.{IsKept}
use Rattle.recurrence_sets.specs.Occurrences.{IsOfSome}
use Rattle.cal_rrule.proofs.SetDayLemmas.{day-bounds-are, day-items, days-same}
use Rattle.cal_rrule.proofs.occurrences.occurrence_days.Goals as goal

pub new-periods-requires-clause-valid : goal.new-periods-requires-clause-valid
new-periods-requires-clause-valid g c =
    let dated = g.met.C.Calendar.dated c.args.calendar c.args.start.now c.requires.belongs in
    subst (λ (n : ℤ). IsValidDay n) (sym c.to_rata_die-day.ensures) dated.valid

pub returns-clause-items : goal.returns-clause-items
returns-clause-items g c = λ xs.
    let t = g.C.Calendar.date_of c.args.calendar c.args.start.now in
    let dated = g.met.C.Calendar.dated c.args.calendar c.args.start.now c.requires.belongs in
    let p = c.new-periods.result in
    let day = c.to_rata_die-day.result in
    let list = (g.C.Calendar.system p.calendar).list in
    let on : IsOn (g.C.Calendar.system c.args.calendar).list day t = record { date = dated.date; day = sym c.to_rata_die-day.ensures } in
    let at = subst (λ (k : g.row.C.Denot). day ≡ day_number (g.C.Calendar.system k).list t) (sym c.new-periods.ensures.calendar) c.to_rata_die-day.ensures in
    let w = c.args.window in
    let made = c.bounds_from_day-bounds in
    let bounds = day-bounds-are list c.args.rule day w.first t made.result made.ensures.bounds at in
    let rest = c.list_days.result.rest in
    rw (c.list_days.ensures.parts.0, c.list_days.ensures.parts.1)
    (subst (λ (k : g.row.C.Denot). AreLeftOf list p.asked made.result rest xs
    ↔ AreDayItems (g.C.Calendar.system k).list c.args.rule t w.first w.last xs) c.new-periods.ensures.calendar
    (day-items list (g.met.C.Calendar.lawful p.calendar) c.args.rule p.asked p.is_asked c.new-periods.ensures.rule t
    (c.new-periods.ensures.start t on) made.result w.first bounds rest w.last xs (c.list_days.ensures.items xs)))

pub returns-clause-parts : goal.returns-clause-parts
returns-clause-parts g c =
    let t = g.C.Calendar.date_of c.args.calendar c.args.start.now in
    let dated = g.met.C.Calendar.dated c.args.calendar c.args.start.now c.requires.belongs in
    let on : IsOn (g.C.Calendar.system c.args.calendar).list c.to_rata_die-day.result t =
    record { date = dated.date; day = sym c.to_rata_die-day.ensures } in
    rw c.list_days.ensures.parts.0
    (c.new-periods.ensures.calendar, c.new-periods.ensures.rule, c.new-periods.ensures.start t on)

pub returns-clause-days : goal.returns-clause-days
returns-clause-days g c =
    let t = g.C.Calendar.date_of c.args.calendar c.args.start.now in
    let dated = g.met.C.Calendar.dated c.args.calendar c.args.start.now c.requires.belongs in
    let p = c.new-periods.result in
    let list = (g.C.Calendar.system p.calendar).list in
    let on : IsOn (g.C.Calendar.system c.args.calendar).list c.to_rata_die-day.result t =
    record { date = dated.date; day = sym c.to_rata_die-day.ensures } in
    rw (c.list_days.ensures.parts.0)
    (λ n valid. subst (λ (k : g.row.C.Denot). IsOfSome (IsOfBlock list p.asked.rule (start_of p.asked)) n ↔ IsOfSome (IsKept (g.C.Calendar.system k).list c.args.rule t) n) c.new-periods.ensures.calendar
    (days-same list (g.met.C.Calendar.lawful p.calendar) c.args.rule p.asked p.is_asked c.new-periods.ensures.rule t
    (c.new-periods.ensures.start t on) n valid))

pub returns-clause-bounds : goal.returns-clause-bounds
returns-clause-bounds g c =
    let t = g.C.Calendar.date_of c.args.calendar c.args.start.now in
    let day = c.to_rata_die-day.result in
    let made = c.bounds_from_day-bounds in
    c.list_days.ensures.parts.1
    ∙ day-bounds-are (g.C.Calendar.system c.args.calendar).list c.args.rule day c.args.window.first t made.result
    made.ensures.bounds c.to_rata_die-day.ensures

pub returns-clause-rest : goal.returns-clause-rest
returns-clause-rest g c = rw (c.list_days.ensures.parts.1) c.list_days.ensures.rest
