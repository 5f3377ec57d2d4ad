use Rattle.std.proofs.Common.{◌∙◌, ◌<◌, ◌≤◌, ℕ, refl, sym, ap, subst, to_z, of_z, w32}
use Rattle.cal_days.specs.Day.{IsFieldYear}
use Rattle.cal_types.specs.CalendarList.{month_count}
use Rattle.cal_rrule.proofs.NearMonthLemmas.{after-last, after-within, look-field, next-field}
use Rattle.cal_rrule.proofs.WordLemmas.{field-back, field-word, next-word, shift-fits}
use Rattle.cal_rrule.proofs.near_months.place_after.Goals as goal

pub months_of_year-requires-clause-low : goal.months_of_year-requires-clause-low
months_of_year-requires-clause-low g c =
    let look = c.args.look.now in
    (field-back look.year (look-field (g.C.Calendar.system c.args.calendar.now).list (g.met.C.Calendar.lawful c.args.calendar.now)
    c.requires.nearby look c.requires.look c.requires.near)).0

pub months_of_year-requires-clause-high : goal.months_of_year-requires-clause-high
months_of_year-requires-clause-high g c =
    let look = c.args.look.now in
    (field-back look.year (look-field (g.C.Calendar.system c.args.calendar.now).list (g.met.C.Calendar.lawful c.args.calendar.now)
    c.requires.nearby look c.requires.look c.requires.near)).1

pub returns-then-look-months_of_year-clause-next : goal.returns-then-look-months_of_year-clause-next
returns-then-look-months_of_year-clause-next g c =
    let list = (g.C.Calendar.system c.args.calendar.now).list in
    let law = g.met.C.Calendar.lawful c.args.calendar.now in
    let look = c.args.look.now in
    let same = field-word look.year (look-field list law c.requires.nearby look c.requires.look c.requires.near) in
    let count = c.months_of_year.ensures ∙ ap (month_count list) same in
    let low = subst (λ (n : ℕ). look.place < n) count c.if-look-months_of_year.true in
    after-within list look.year (to_z w32 (of_z w32 look.year)) look.place _ c.requires.look.is_place low same refl

pub returns-then-look-months_of_year-clause-field : goal.returns-then-look-months_of_year-clause-field
returns-then-look-months_of_year-clause-field g c =
    let look = c.args.look.now in
    let field = look-field (g.C.Calendar.system c.args.calendar.now).list (g.met.C.Calendar.lawful c.args.calendar.now) c.requires.nearby
    look c.requires.look c.requires.near in
    subst IsFieldYear (sym (field-word look.year field)) field

pub overflow_add-result-2 : goal.overflow_add-result-2
overflow_add-result-2 g c =
    let look = c.args.look.now in
    shift-fits look.year (look-field (g.C.Calendar.system c.args.calendar.now).list (g.met.C.Calendar.lawful c.args.calendar.now)
    c.requires.nearby look c.requires.look c.requires.near)

pub returns-clause-next : goal.returns-clause-next
returns-clause-next g c =
    let list = (g.C.Calendar.system c.args.calendar.now).list in
    let law = g.met.C.Calendar.lawful c.args.calendar.now in
    let look = c.args.look.now in
    let field = look-field list law c.requires.nearby look c.requires.look c.requires.near in
    let count = c.months_of_year.ensures ∙ ap (month_count list) (field-word look.year field) in
    after-last list law look.year _ look.place c.requires.look.is_place
    (subst (λ (n : ℕ). n ≤ look.place) count c.if-look-months_of_year.false) (next-word look.year field)

pub returns-clause-field : goal.returns-clause-field
returns-clause-field g c =
    let list = (g.C.Calendar.system c.args.calendar.now).list in
    let law = g.met.C.Calendar.lawful c.args.calendar.now in
    let look = c.args.look.now in
    let field = look-field list law c.requires.nearby look c.requires.look c.requires.near in
    let count = c.months_of_year.ensures ∙ ap (month_count list) (field-word look.year field) in
    next-field list law c.requires.nearby look c.requires.look c.requires.near _ 1
    (after-last list law look.year _ look.place c.requires.look.is_place
    (subst (λ (n : ℕ). n ≤ look.place) count c.if-look-months_of_year.false) (next-word look.year field))
