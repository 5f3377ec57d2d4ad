use Rattle.std.proofs.Common.{◌∙◌, ◌≤◌, ℕ, ℤ, ap, sym, subst}
use Rattle.cal_types.specs.CalendarList.{date, day_number, month_length}
use Rattle.cal_rrule.specs.Looks.{look_stretch}
use Rattle.cal_rrule.specs.Stretches.{InStretch}
use Rattle.cal_rrule.proofs.LookLemmas.{look-meets}
use Rattle.cal_rrule.proofs.NearMonthLemmas.{last-ends}
use Rattle.cal_rrule.proofs.WordLemmas.{back-joins, back-within, back-word, before-starts, before-word, field-word, month-short, valid-test}
use Rattle.cal_rrule.proofs.near_months.month_before.Goals as goal

pub returns-then-is_valid-clause-joins : goal.returns-then-is_valid-clause-joins
returns-then-is_valid-clause-joins g c =
    let list = (g.C.Calendar.system c.args.calendar.now).list in
    let law = g.met.C.Calendar.lawful c.args.calendar.now in
    let look = c.args.look.now in
    look-meets list law look c.month_of.result c.requires.look c.month_of.ensures.look
    (subst (λ (n : ℤ). InStretch (look_stretch c.month_of.result) n) (before-word look.first look.near) c.month_of.ensures.within)

pub look_at-requires-clause-begins : goal.look_at-requires-clause-begins
look_at-requires-clause-begins g c =
    let list = (g.C.Calendar.system c.args.calendar.now).list in
    let law = g.met.C.Calendar.lawful c.args.calendar.now in
    let look = c.args.look.now in
    let year = c.place_before-year.result.0 in
    let place = c.place_before-year.result.1 in
    let days = c.days_of_month-days.result in
    let same = field-word year c.place_before-year.ensures.field in
    let ends = last-ends list law c.requires.nearby look c.requires.look c.requires.near year place
    c.place_before-year.ensures.place c.place_before-year.ensures.next in
    let length = c.days_of_month-days.ensures ∙ ap (λ (y : ℤ). month_length list y place) same in
    let short = month-short days (subst (λ (n : ℕ). n ≤ 31) (sym length) (law.lengths year place c.place_before-year.ensures.place).1) in
    back-word look.first c.from.result days c.from.ensures short c.requires.near
    ∙ before-starts look.first _ days _ ends length ∙ ap (λ (y : ℤ). day_number list (date y place 1)) (sym same)

pub month_of-requires-clause-low : goal.month_of-requires-clause-low
month_of-requires-clause-low g c = (valid-test c.is_valid.result _ c.is_valid.ensures c.if-is_valid.true).0

pub month_of-requires-clause-high : goal.month_of-requires-clause-high
month_of-requires-clause-high g c = (valid-test c.is_valid.result _ c.is_valid.ensures c.if-is_valid.true).1

pub returns-clause-joins : goal.returns-clause-joins
returns-clause-joins g c =
    let list = (g.C.Calendar.system c.args.calendar.now).list in
    let law = g.met.C.Calendar.lawful c.args.calendar.now in
    let look = c.args.look.now in
    let year = c.place_before-year.result.0 in
    let place = c.place_before-year.result.1 in
    let days = c.days_of_month-days.result in
    let same = field-word year c.place_before-year.ensures.field in
    let length = c.days_of_month-days.ensures ∙ ap (λ (y : ℤ). month_length list y place) same in
    let short = month-short days (subst (λ (n : ℕ). n ≤ 31) (sym length) (law.lengths year place c.place_before-year.ensures.place).1) in
    let word = back-word look.first c.from.result days c.from.ensures short c.requires.near in
    back-joins c.look_at.result.first _ look.first c.look_at.result.days days c.look_at.ensures.begins word c.look_at.ensures.length

pub look_at-requires-clause-within : goal.look_at-requires-clause-within
look_at-requires-clause-within g c =
    let list = (g.C.Calendar.system c.args.calendar.now).list in
    let law = g.met.C.Calendar.lawful c.args.calendar.now in
    let look = c.args.look.now in
    let year = c.place_before-year.result.0 in
    let place = c.place_before-year.result.1 in
    let days = c.days_of_month-days.result in
    let same = field-word year c.place_before-year.ensures.field in
    let length = c.days_of_month-days.ensures ∙ ap (λ (y : ℤ). month_length list y place) same in
    let short = month-short days (subst (λ (n : ℕ). n ≤ 31) (sym length) (law.lengths year place c.place_before-year.ensures.place).1) in
    let word = back-word look.first c.from.result days c.from.ensures short c.requires.near in
    back-within _ look.first days word short c.requires.near

pub look_at-requires-clause-nearby : goal.look_at-requires-clause-nearby
look_at-requires-clause-nearby g c = c.requires.nearby
