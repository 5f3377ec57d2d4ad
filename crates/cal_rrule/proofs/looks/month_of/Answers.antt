use Rattle.std.proofs.Common.{◌≡◌, ◌∙◌, ◌≤◌, ℕ, ℤ, pos, ap, sym, subst, w32, rules}
use Rattle.std.proofs.lemmas.Int.{to_z-of_z}
use Rattle.cal_types.specs.CalendarList.{IsOn}
use Rattle.cal_rrule.proofs.LookLemmas.{look-of, look-within}
use Rattle.cal_rrule.proofs.WordLemmas.{day-few, first-fits, first-kept, first-word, valid-word}
use Rattle.cal_rrule.proofs.looks.month_of.Goals as goal

pub returns-clause-look : goal.returns-clause-look
returns-clause-look g c =
    let list = (g.C.Calendar.system c.args.calendar.now).list in
    let t = g.C.Calendar.date_of c.args.calendar.now c.from_rata_die-date.result in
    let at = c.new.ensures ∙ valid-word c.args.day (c.requires.low, c.requires.high) in
    let on = subst (λ (n : ℤ). IsOn list n t) at c.from_rata_die-date.ensures.on in
    let year = to_z-of_z w32 c.extended_year.result (search rules) in
    let few = day-few t.day _ on.date.day.1 ((g.met.C.Calendar.lawful c.args.calendar.now).lengths t.year t.month on.date.place).1 in
    let day : c.from.result ≡ pos t.day = c.from.ensures ∙ ap pos c.day_of_month.ensures in
    look-of list c.args.day t _ on (year ∙ c.extended_year.ensures)
    (ap (λ m. m.ordinal) c.month-info.ensures) (first-word c.args.day c.from.result t.day day (c.requires.low, c.requires.high) few) c.days_in_month.ensures
    (c.to_input.ensures ∙ ap (λ m. m.month) c.month-info.ensures)

pub returns-clause-within : goal.returns-clause-within
returns-clause-within g c =
    let list = (g.C.Calendar.system c.args.calendar.now).list in
    let t = g.C.Calendar.date_of c.args.calendar.now c.from_rata_die-date.result in
    let at = c.new.ensures ∙ valid-word c.args.day (c.requires.low, c.requires.high) in
    let on = subst (λ (n : ℤ). IsOn list n t) at c.from_rata_die-date.ensures.on in
    let day : c.from.result ≡ pos t.day = c.from.ensures ∙ ap pos c.day_of_month.ensures in
    let few = day-few t.day _ on.date.day.1 ((g.met.C.Calendar.lawful c.args.calendar.now).lengths t.year t.month on.date.place).1 in
    look-within list c.args.day t _ _ on (first-word c.args.day c.from.result t.day day (c.requires.low, c.requires.high) few) c.days_in_month.ensures

pub invariant_of-result-clause-short : goal.invariant_of-result-clause-short
invariant_of-result-clause-short g c =
    let list = (g.C.Calendar.system c.args.calendar.now).list in
    let t = g.C.Calendar.date_of c.args.calendar.now c.from_rata_die-date.result in
    let most = ((g.met.C.Calendar.lawful c.args.calendar.now).lengths t.year t.month c.from_rata_die-date.ensures.on.date.place).1 in
    subst (λ (n : ℕ). n ≤ 31) (sym c.days_in_month.ensures) most

pub overflow_sub-result : goal.overflow_sub-result
overflow_sub-result g c =
    let t = g.C.Calendar.date_of c.args.calendar.now c.from_rata_die-date.result in
    let few = day-few t.day _ c.from_rata_die-date.ensures.on.date.day.1 ((g.met.C.Calendar.lawful c.args.calendar.now).lengths t.year t.month c.from_rata_die-date.ensures.on.date.place).1 in
    let day : c.from.result ≡ pos t.day = c.from.ensures ∙ ap pos c.day_of_month.ensures in
    first-fits c.args.day c.from.result t.day day (c.requires.low, c.requires.high) few

pub invariant_of-result-clause-near : goal.invariant_of-result-clause-near
invariant_of-result-clause-near g c =
    let t = g.C.Calendar.date_of c.args.calendar.now c.from_rata_die-date.result in
    let few = day-few t.day _ c.from_rata_die-date.ensures.on.date.day.1 ((g.met.C.Calendar.lawful c.args.calendar.now).lengths t.year t.month c.from_rata_die-date.ensures.on.date.place).1 in
    let day : c.from.result ≡ pos t.day = c.from.ensures ∙ ap pos c.day_of_month.ensures in
    first-kept c.args.day c.from.result t.day day (c.requires.low, c.requires.high) few
