use Rattle.std.proofs.Common.{sym, subst}
use Rattle.cal_days.specs.Day.{IsFieldYear}
use Rattle.cal_rrule.proofs.NearMonthLemmas.{before-first, before-within, field-before, look-field}
use Rattle.cal_rrule.proofs.WordLemmas.{back-fits, field-word, last-back, last-word, less-one}
use Rattle.cal_rrule.proofs.near_months.place_before.Goals as goal

pub returns-then-look-gt1-clause-next : goal.returns-then-look-gt1-clause-next
returns-then-look-gt1-clause-next g c =
    let list = (g.C.Calendar.system c.args.calendar.now).list in
    let law = g.met.C.Calendar.lawful c.args.calendar.now in
    let look = c.args.look.now in
    let field = look-field list law c.requires.nearby look c.requires.look c.requires.near in
    (before-within list look.year _ look.place _ c.requires.look.is_place c.if-look-gt1.true (field-word look.year field)
    (less-one look.place c.if-look-gt1.true)).1

pub returns-then-look-gt1-clause-field : goal.returns-then-look-gt1-clause-field
returns-then-look-gt1-clause-field g c =
    let look = c.args.look.now in
    let field = look-field (g.C.Calendar.system c.args.calendar.now).list (g.met.C.Calendar.lawful c.args.calendar.now) c.requires.nearby
    look c.requires.look c.requires.near in
    subst IsFieldYear (sym (field-word look.year field)) field

pub overflow_sub-year : goal.overflow_sub-year
overflow_sub-year g c =
    let look = c.args.look.now in
    back-fits look.year (look-field (g.C.Calendar.system c.args.calendar.now).list (g.met.C.Calendar.lawful c.args.calendar.now)
    c.requires.nearby look c.requires.look c.requires.near)

pub months_of_year-requires-clause-low : goal.months_of_year-requires-clause-low
months_of_year-requires-clause-low g c =
    let list = (g.C.Calendar.system c.args.calendar.now).list in
    let law = g.met.C.Calendar.lawful c.args.calendar.now in
    let look = c.args.look.now in
    let field = look-field list law c.requires.nearby look c.requires.look c.requires.near in
    (subst IsFieldYear (sym (last-word look.year field))
    (field-before list law c.requires.nearby look c.requires.look c.requires.near c.if-look-gt1.false)).0

pub months_of_year-requires-clause-high : goal.months_of_year-requires-clause-high
months_of_year-requires-clause-high g c =
    let list = (g.C.Calendar.system c.args.calendar.now).list in
    let law = g.met.C.Calendar.lawful c.args.calendar.now in
    let look = c.args.look.now in
    let field = look-field list law c.requires.nearby look c.requires.look c.requires.near in
    (subst IsFieldYear (sym (last-word look.year field))
    (field-before list law c.requires.nearby look c.requires.look c.requires.near c.if-look-gt1.false)).1

pub returns-clause-place : goal.returns-clause-place
returns-clause-place g c =
    let list = (g.C.Calendar.system c.args.calendar.now).list in
    let law = g.met.C.Calendar.lawful c.args.calendar.now in
    let look = c.args.look.now in
    let field = look-field list law c.requires.nearby look c.requires.look c.requires.near in
    (before-first list law look.year _ look.place _ c.requires.look.is_place c.if-look-gt1.false (last-back look.year field)
    c.months_of_year.ensures).0

pub returns-clause-next : goal.returns-clause-next
returns-clause-next g c =
    let list = (g.C.Calendar.system c.args.calendar.now).list in
    let law = g.met.C.Calendar.lawful c.args.calendar.now in
    let look = c.args.look.now in
    let field = look-field list law c.requires.nearby look c.requires.look c.requires.near in
    (before-first list law look.year _ look.place _ c.requires.look.is_place c.if-look-gt1.false (last-back look.year field)
    c.months_of_year.ensures).1

pub returns-clause-field : goal.returns-clause-field
returns-clause-field g c =
    let list = (g.C.Calendar.system c.args.calendar.now).list in
    let law = g.met.C.Calendar.lawful c.args.calendar.now in
    let look = c.args.look.now in
    let field = look-field list law c.requires.nearby look c.requires.look c.requires.near in
    subst IsFieldYear (sym (last-word look.year field))
    (field-before list law c.requires.nearby look c.requires.look c.requires.near c.if-look-gt1.false)
