use Rattle.std.proofs.Common.{◌≡◌, ◌∙◌, true, ℤ, ◌+ℤ◌, sym, subst, Ok, Err}
use Rattle.cal_days.specs.Day.{IsValidDay, is_field_year}
use Rattle.cal_days.proofs.RangeLemmas.{true-is_between}
use Rattle.cal_types.specs.CalendarList.{IsOn, day_number}
use Rattle.cal_rrule.specs.Looks.{look_stretch}
use Rattle.cal_rrule.specs.Stretches.{InStretch}
use Rattle.cal_rrule.proofs.MonthStepLemmas.{month-begins, month-found, month-none, month-sum}
use Rattle.cal_rrule.proofs.WordLemmas.{held-valid, held-word, valid-word}
use Rattle.cal_rrule.proofs.month_steps.months_after.Goals as goal

pub month_of-requires-clause-low : goal.month_of-requires-clause-low
month_of-requires-clause-low g c =
    let u = g.C.Calendar.date_of c.args.calendar.now c.in-Ok.later in
    let valid = (g.met.C.Calendar.dated c.args.calendar.now c.in-Ok.later c.in-Ok.ensures.belongs).valid in
    let day = c.to_i64_date.ensures.value ∙ c.to_rata_die.ensures in
    (held-valid c.to_i64_date.result (day_number (g.C.Calendar.system c.args.calendar.now).list u) day valid).0

pub month_of-requires-clause-high : goal.month_of-requires-clause-high
month_of-requires-clause-high g c =
    let u = g.C.Calendar.date_of c.args.calendar.now c.in-Ok.later in
    let valid = (g.met.C.Calendar.dated c.args.calendar.now c.in-Ok.later c.in-Ok.ensures.belongs).valid in
    let day = c.to_i64_date.ensures.value ∙ c.to_rata_die.ensures in
    (held-valid c.to_i64_date.result (day_number (g.C.Calendar.system c.args.calendar.now).list u) day valid).1

pub returns-in-Ok-clause-found : goal.returns-in-Ok-clause-found
returns-in-Ok-clause-found g c =
    let s = g.C.Calendar.system c.args.calendar.now in
    let law = g.met.C.Calendar.lawful c.args.calendar.now in
    let look = c.args.look.now in
    let t = g.C.Calendar.date_of c.args.calendar.now c.from_rata_die-date.result in
    let u = g.C.Calendar.date_of c.args.calendar.now c.in-Ok.later in
    let at = c.new.ensures ∙ valid-word look.first c.requires.valid in
    let on = subst (λ (n : ℤ). IsOn s.list n t) at c.from_rata_die-date.ensures.on in
    let dated = g.met.C.Calendar.dated c.args.calendar.now c.from_rata_die-date.result c.from_rata_die-date.ensures.belongs in
    let field : is_field_year (t.year +ℤ s.year_shift) ≡ true = true-is_between _ _ _ (g.met.C.Calendar.shifted c.args.calendar.now t dated) in
    let sum = month-sum s.list law s.year_shift look t c.requires.look on field c.args.months c.requires.few (Ok u) c.in-Ok.ensures.sum in
    let day : c.to_i64_date.result ≡ day_number s.list u = c.to_i64_date.ensures.value ∙ c.to_rata_die.ensures in
    let valid = (g.met.C.Calendar.dated c.args.calendar.now c.in-Ok.later c.in-Ok.ensures.belongs).valid in
    month-found s.list law look c.month_of.result c.args.months u c.to_i64_date.result sum day c.month_of.ensures.look
    (subst (λ (n : ℤ). InStretch (look_stretch c.month_of.result) n) (held-word c.to_i64_date.result (day_number s.list u) day valid ∙ sym day) c.month_of.ensures.within)

pub returns-in-Ok-clause-valid : goal.returns-in-Ok-clause-valid
returns-in-Ok-clause-valid g c =
    let s = g.C.Calendar.system c.args.calendar.now in
    let law = g.met.C.Calendar.lawful c.args.calendar.now in
    let look = c.args.look.now in
    let t = g.C.Calendar.date_of c.args.calendar.now c.from_rata_die-date.result in
    let u = g.C.Calendar.date_of c.args.calendar.now c.in-Ok.later in
    let at = c.new.ensures ∙ valid-word look.first c.requires.valid in
    let on = subst (λ (n : ℤ). IsOn s.list n t) at c.from_rata_die-date.ensures.on in
    let dated = g.met.C.Calendar.dated c.args.calendar.now c.from_rata_die-date.result c.from_rata_die-date.ensures.belongs in
    let field : is_field_year (t.year +ℤ s.year_shift) ≡ true = true-is_between _ _ _ (g.met.C.Calendar.shifted c.args.calendar.now t dated) in
    let sum = month-sum s.list law s.year_shift look t c.requires.look on field c.args.months c.requires.few (Ok u) c.in-Ok.ensures.sum in
    let day : c.to_i64_date.result ≡ day_number s.list u = c.to_i64_date.ensures.value ∙ c.to_rata_die.ensures in
    let valid = (g.met.C.Calendar.dated c.args.calendar.now c.in-Ok.later c.in-Ok.ensures.belongs).valid in
    let same = held-word c.to_i64_date.result (day_number s.list u) day valid ∙ sym day in
    let within = subst (λ (n : ℤ). InStretch (look_stretch c.month_of.result) n) same c.month_of.ensures.within in
    let begins = month-begins s.list law look c.month_of.result c.args.months u c.to_i64_date.result sum day c.month_of.ensures.look within in
    subst IsValidDay (sym (begins ∙ day)) valid

pub returns-in-Err-clause-found : goal.returns-in-Err-clause-found
returns-in-Err-clause-found g c =
    let s = g.C.Calendar.system c.args.calendar.now in
    let law = g.met.C.Calendar.lawful c.args.calendar.now in
    let look = c.args.look.now in
    let t = g.C.Calendar.date_of c.args.calendar.now c.from_rata_die-date.result in
    let at = c.new.ensures ∙ valid-word look.first c.requires.valid in
    let on = subst (λ (n : ℤ). IsOn s.list n t) at c.from_rata_die-date.ensures.on in
    let dated = g.met.C.Calendar.dated c.args.calendar.now c.from_rata_die-date.result c.from_rata_die-date.ensures.belongs in
    let field : is_field_year (t.year +ℤ s.year_shift) ≡ true = true-is_between _ _ _ (g.met.C.Calendar.shifted c.args.calendar.now t dated) in
    let sum = month-sum s.list law s.year_shift look t c.requires.look on field c.args.months c.requires.few (Err c.in-Err.field-0) c.in-Err.ensures.sum in
    month-none s.list look c.args.months c.in-Err.field-0 sum
