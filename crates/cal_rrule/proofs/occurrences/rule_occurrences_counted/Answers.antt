use Rattle.std.proofs.Common.{◌≡◌, ◌∙◌, ◌↔◌, ℤ, subst, sym}
use Rattle.cal_days.specs.Day.{IsValidDay}
use Rattle.cal_types.specs.CalendarList.{IsOn, day_number}
use Rattle.cal_rrule.specs.Blocks.{IsOfBlock, start_of}
use Rattle.cal_rrule.specs.Listing.{AreLeftOf, HasBefore}
use Rattle.cal_rrule.specs.Occurrences.{AreOccurrences, IsKept, bounds_of}
use Rattle.recurrence_sets.specs.Occurrences.{IsOfSome}
use Rattle.cal_rrule.proofs.BlockLemmas.{before-same, bounds-are, items-same, same_days}
use Rattle.cal_rrule.proofs.occurrences.rule_occurrences_counted.Goals as goal

pub new-periods-requires-clause-valid : goal.new-periods-requires-clause-valid
new-periods-requires-clause-valid g c =
    let dated = g.met.C.Calendar.dated c.args.calendar c.args.start.now c.requires.belongs in
    subst (λ (n : ℤ). IsValidDay n) (sym c.to_rata_die-day.ensures) dated.valid

pub returns-clause-items : goal.returns-clause-items
returns-clause-items g c = λ xs.
    let t = g.C.Calendar.date_of c.args.calendar c.args.start.now in
    let dated = g.met.C.Calendar.dated c.args.calendar c.args.start.now c.requires.belongs in
    let p = c.new-periods.result in
    let day = c.to_rata_die-day.result in
    let list = (g.C.Calendar.system p.calendar).list in
    let on : IsOn (g.C.Calendar.system c.args.calendar).list day t = record { date = dated.date; day = sym c.to_rata_die-day.ensures } in
    let at = subst (λ (k : g.row.C.Denot). day ≡ day_number (g.C.Calendar.system k).list t) (sym c.new-periods.ensures.calendar) c.to_rata_die-day.ensures in
    let bounds = bounds-are list c.args.rule day t c.bounds_from-bounds.result c.bounds_from-bounds.ensures at in
    let rest = c.new_counted.result.rest in
    let w = c.args.window in
    rw (c.new_counted.ensures.parts.0, c.new_counted.ensures.parts.1)
    (subst (λ (k : g.row.C.Denot). AreLeftOf list p.asked c.bounds_from-bounds.result rest xs
    ↔ AreOccurrences (g.C.Calendar.system k).list c.args.rule t w.first w.last xs) c.new-periods.ensures.calendar
    (items-same list (g.met.C.Calendar.lawful p.calendar) c.args.rule p.asked p.is_asked c.new-periods.ensures.rule t
    (c.new-periods.ensures.start t on) c.bounds_from-bounds.result bounds rest w.first w.last xs (c.new_counted.ensures.items xs)))

pub returns-clause-counts : goal.returns-clause-counts
returns-clause-counts g c =
    let t = g.C.Calendar.date_of c.args.calendar c.args.start.now in
    let dated = g.met.C.Calendar.dated c.args.calendar c.args.start.now c.requires.belongs in
    let p = c.new-periods.result in
    let day = c.to_rata_die-day.result in
    let list = (g.C.Calendar.system p.calendar).list in
    let on : IsOn (g.C.Calendar.system c.args.calendar).list day t = record { date = dated.date; day = sym c.to_rata_die-day.ensures } in
    let at = subst (λ (k : g.row.C.Denot). day ≡ day_number (g.C.Calendar.system k).list t) (sym c.new-periods.ensures.calendar) c.to_rata_die-day.ensures in
    let bounds = bounds-are list c.args.rule day t c.bounds_from-bounds.result c.bounds_from-bounds.ensures at in
    rw (c.new_counted.ensures.parts.0, c.new_counted.ensures.parts.1) (λ n index counted.
    subst (λ (k : g.row.C.Denot). HasBefore (g.C.Calendar.system k).list c.args.rule t n index) c.new-periods.ensures.calendar
    (before-same list (g.met.C.Calendar.lawful p.calendar) c.args.rule p.asked p.is_asked c.new-periods.ensures.rule t
    (c.new-periods.ensures.start t on) c.bounds_from-bounds.result bounds n index counted))

pub returns-clause-parts : goal.returns-clause-parts
returns-clause-parts g c =
    let t = g.C.Calendar.date_of c.args.calendar c.args.start.now in
    let dated = g.met.C.Calendar.dated c.args.calendar c.args.start.now c.requires.belongs in
    let on : IsOn (g.C.Calendar.system c.args.calendar).list c.to_rata_die-day.result t =
    record { date = dated.date; day = sym c.to_rata_die-day.ensures } in
    rw c.new_counted.ensures.parts.0
    (c.new-periods.ensures.calendar, c.new-periods.ensures.rule, c.new-periods.ensures.start t on)

pub returns-clause-days : goal.returns-clause-days
returns-clause-days g c =
    let t = g.C.Calendar.date_of c.args.calendar c.args.start.now in
    let dated = g.met.C.Calendar.dated c.args.calendar c.args.start.now c.requires.belongs in
    let p = c.new-periods.result in
    let day = c.to_rata_die-day.result in
    let list = (g.C.Calendar.system p.calendar).list in
    let on : IsOn (g.C.Calendar.system c.args.calendar).list day t = record { date = dated.date; day = sym c.to_rata_die-day.ensures } in
    let at = subst (λ (k : g.row.C.Denot). day ≡ day_number (g.C.Calendar.system k).list t) (sym c.new-periods.ensures.calendar) c.to_rata_die-day.ensures in
    let bounds = bounds-are list c.args.rule day t c.bounds_from-bounds.result c.bounds_from-bounds.ensures at in
    rw (c.new_counted.ensures.parts.0)
    (λ n valid. subst (λ (k : g.row.C.Denot). IsOfSome (IsOfBlock list p.asked.rule (start_of p.asked)) n ↔ IsOfSome (IsKept (g.C.Calendar.system k).list c.args.rule t) n) c.new-periods.ensures.calendar
    (same_days list (g.met.C.Calendar.lawful p.calendar) c.args.rule p.asked p.is_asked c.new-periods.ensures.rule t
    (c.new-periods.ensures.start t on) c.bounds_from-bounds.result bounds n valid))

pub returns-clause-bounds : goal.returns-clause-bounds
returns-clause-bounds g c =
    let t = g.C.Calendar.date_of c.args.calendar c.args.start.now in
    let dated = g.met.C.Calendar.dated c.args.calendar c.args.start.now c.requires.belongs in
    let p = c.new-periods.result in
    let day = c.to_rata_die-day.result in
    let list = (g.C.Calendar.system p.calendar).list in
    let on : IsOn (g.C.Calendar.system c.args.calendar).list day t = record { date = dated.date; day = sym c.to_rata_die-day.ensures } in
    let at = subst (λ (k : g.row.C.Denot). day ≡ day_number (g.C.Calendar.system k).list t) (sym c.new-periods.ensures.calendar) c.to_rata_die-day.ensures in
    let bounds = bounds-are list c.args.rule day t c.bounds_from-bounds.result c.bounds_from-bounds.ensures at in
    c.new_counted.ensures.parts.1 ∙ subst (λ (k : g.row.C.Denot). c.bounds_from-bounds.result ≡ bounds_of (g.C.Calendar.system k).list c.args.rule t) c.new-periods.ensures.calendar bounds

pub returns-clause-rest : goal.returns-clause-rest
returns-clause-rest g c = rw (c.new_counted.ensures.parts.1) c.new_counted.ensures.rest
