use Rattle.std.proofs.Common.{◌∙◌, ◌≤◌, ℕ, ℤ, sym, subst, rules, w32}
use Rattle.std.proofs.lemmas.Int.{to_z-of_z}
use Rattle.cal_types.specs.CalendarList.{IsOn, start_of_year}
use Rattle.cal_types.proofs.ListLemmas.{date-in_year, year_length-most}
use Rattle.cal_rrule.proofs.WordLemmas.{first-fits, first-kept, first-word, valid-word, year-day-few, year-first}
use Rattle.cal_rrule.proofs.YearLookLemmas.{year-of, year-within}
use Rattle.cal_rrule.proofs.looks.year_of.Goals as goal

pub returns-clause-look : goal.returns-clause-look
returns-clause-look g c =
    let list = (g.C.Calendar.system c.args.calendar.now).list in
    let law = g.met.C.Calendar.lawful c.args.calendar.now in
    let t = g.C.Calendar.date_of c.args.calendar.now c.from_rata_die-date.result in
    let dated = c.from_rata_die-date.ensures.on.date in
    let few = year-day-few (start_of_year list t.year) c.day_of_year.result.0 _ t.day _ c.day_of_year.ensures dated.day.0
    (date-in_year list t dated) (year_length-most list t.year law) in
    let at = c.new.ensures ∙ valid-word c.args.day (c.requires.low, c.requires.high) in
    let on = subst (λ (n : ℤ). IsOn list n t) at c.from_rata_die-date.ensures.on in
    let year = to_z-of_z w32 c.extended_year.result (search rules) in
    let first = first-word c.args.day c.from.result c.day_of_year.result.0 c.from.ensures (c.requires.low, c.requires.high) few
    ∙ year-first (start_of_year list t.year) c.args.day _ c.day_of_year.result.0 c.day_of_year.ensures on.day in
    year-of list c.args.day t _ on (year ∙ c.extended_year.ensures) first c.days_in_year.ensures

pub returns-clause-within : goal.returns-clause-within
returns-clause-within g c =
    let list = (g.C.Calendar.system c.args.calendar.now).list in
    let law = g.met.C.Calendar.lawful c.args.calendar.now in
    let t = g.C.Calendar.date_of c.args.calendar.now c.from_rata_die-date.result in
    let dated = c.from_rata_die-date.ensures.on.date in
    let few = year-day-few (start_of_year list t.year) c.day_of_year.result.0 _ t.day _ c.day_of_year.ensures dated.day.0
    (date-in_year list t dated) (year_length-most list t.year law) in
    let at = c.new.ensures ∙ valid-word c.args.day (c.requires.low, c.requires.high) in
    let on = subst (λ (n : ℤ). IsOn list n t) at c.from_rata_die-date.ensures.on in
    let first = first-word c.args.day c.from.result c.day_of_year.result.0 c.from.ensures (c.requires.low, c.requires.high) few
    ∙ year-first (start_of_year list t.year) c.args.day _ c.day_of_year.result.0 c.day_of_year.ensures on.day in
    year-within list c.args.day t _ _ on first c.days_in_year.ensures

pub overflow_sub-result : goal.overflow_sub-result
overflow_sub-result g c =
    let list = (g.C.Calendar.system c.args.calendar.now).list in
    let law = g.met.C.Calendar.lawful c.args.calendar.now in
    let t = g.C.Calendar.date_of c.args.calendar.now c.from_rata_die-date.result in
    let dated = c.from_rata_die-date.ensures.on.date in
    let few = year-day-few (start_of_year list t.year) c.day_of_year.result.0 _ t.day _ c.day_of_year.ensures dated.day.0
    (date-in_year list t dated) (year_length-most list t.year law) in
    first-fits c.args.day c.from.result c.day_of_year.result.0 c.from.ensures (c.requires.low, c.requires.high) few

pub invariant_of-result-clause-near : goal.invariant_of-result-clause-near
invariant_of-result-clause-near g c =
    let list = (g.C.Calendar.system c.args.calendar.now).list in
    let law = g.met.C.Calendar.lawful c.args.calendar.now in
    let t = g.C.Calendar.date_of c.args.calendar.now c.from_rata_die-date.result in
    let dated = c.from_rata_die-date.ensures.on.date in
    let few = year-day-few (start_of_year list t.year) c.day_of_year.result.0 _ t.day _ c.day_of_year.ensures dated.day.0
    (date-in_year list t dated) (year_length-most list t.year law) in
    first-kept c.args.day c.from.result c.day_of_year.result.0 c.from.ensures (c.requires.low, c.requires.high) few

pub invariant_of-result-clause-short : goal.invariant_of-result-clause-short
invariant_of-result-clause-short g c =
    let list = (g.C.Calendar.system c.args.calendar.now).list in
    let t = g.C.Calendar.date_of c.args.calendar.now c.from_rata_die-date.result in
    subst (λ (n : ℕ). n ≤ 403) (sym c.days_in_year.ensures) (year_length-most list t.year (g.met.C.Calendar.lawful c.args.calendar.now))
