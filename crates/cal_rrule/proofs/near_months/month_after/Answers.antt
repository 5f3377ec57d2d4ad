use Rattle.std.proofs.Common.{◌∙◌, ℤ, ap, sym, subst}
use Rattle.cal_types.specs.CalendarList.{date, day_number}
use Rattle.cal_rrule.specs.Looks.{look_stretch}
use Rattle.cal_rrule.specs.Stretches.{InStretch}
use Rattle.cal_rrule.proofs.LookLemmas.{look-joins}
use Rattle.cal_rrule.proofs.NearMonthLemmas.{next-begins}
use Rattle.cal_rrule.proofs.WordLemmas.{end-word, field-word, month-short, valid-test}
use Rattle.cal_rrule.proofs.near_months.month_after.Goals as goal

pub returns-then-is_valid-clause-joins : goal.returns-then-is_valid-clause-joins
returns-then-is_valid-clause-joins g c =
    let list = (g.C.Calendar.system c.args.calendar.now).list in
    let law = g.met.C.Calendar.lawful c.args.calendar.now in
    let look = c.args.look.now in
    let end = end-word c.end-first.result look.first look.days c.end-first.ensures look.near (month-short look.days look.short) in
    look-joins list law look c.month_of.result c.requires.look c.month_of.ensures.look
    (subst (λ (n : ℤ). InStretch (look_stretch c.month_of.result) n) end c.month_of.ensures.within)

pub look_at-requires-clause-begins : goal.look_at-requires-clause-begins
look_at-requires-clause-begins g c =
    let list = (g.C.Calendar.system c.args.calendar.now).list in
    let law = g.met.C.Calendar.lawful c.args.calendar.now in
    let look = c.args.look.now in
    let year = c.place_after-year.result.0 in
    let place = c.place_after-year.result.1 in
    let same = field-word year c.place_after-year.ensures.field in
    let end = end-word c.end-first.result look.first look.days c.end-first.ensures look.near (month-short look.days look.short) in
    end ∙ next-begins list law c.requires.nearby look c.requires.look c.requires.near year place c.place_after-year.ensures.next
    ∙ ap (λ (y : ℤ). day_number list (date y place 1)) (sym same)

pub month_of-requires-clause-low : goal.month_of-requires-clause-low
month_of-requires-clause-low g c = (valid-test c.is_valid.result _ c.is_valid.ensures c.if-is_valid.true).0

pub month_of-requires-clause-high : goal.month_of-requires-clause-high
month_of-requires-clause-high g c = (valid-test c.is_valid.result _ c.is_valid.ensures c.if-is_valid.true).1

pub returns-clause-joins : goal.returns-clause-joins
returns-clause-joins g c =
    let look = c.args.look.now in
    c.look_at.ensures.begins
    ∙ end-word c.end-first.result look.first look.days c.end-first.ensures look.near (month-short look.days look.short)

pub look_at-requires-clause-nearby : goal.look_at-requires-clause-nearby
look_at-requires-clause-nearby g c = c.requires.nearby
