use Rattle.std.proofs.Common.{◌∙◌, ◌-◌, ℤ, pos, neg_ℤ, ap, subst, sym}
use Rattle.cal_days.specs.Day.{IsValidDay, is_valid_day}
use Rattle.cal_days.proofs.RangeLemmas.{is_between-true}
use Rattle.cal_rrule.specs.Looks.{look_stretch}
use Rattle.cal_rrule.specs.Stretches.{InStretch, end_of}
use Rattle.cal_rrule.proofs.LookLemmas.{look-joins}
use Rattle.cal_rrule.proofs.MonthStepLemmas.{held-next, held-none, held-zero, starts-near}
use Rattle.cal_rrule.proofs.WordLemmas.{end-word, month-near, month-short, one-less, some-of, valid-test}
use Rattle.cal_rrule.proofs.month_steps.month_ahead.Goals as goal

pub returns-then-months-eq0-clause-held : goal.returns-then-months-eq0-clause-held
returns-then-months-eq0-clause-held g c =
    held-zero (g.C.Calendar.system c.args.calendar.now).list c.args.look.now c.args.months c.requires.look c.if-months-eq0.true

pub returns-then-not-is_valid-clause-held : goal.returns-then-not-is_valid-clause-held
returns-then-not-is_valid-clause-held g c =
    let list = (g.C.Calendar.system c.args.calendar.now).list in
    let law = g.met.C.Calendar.lawful c.args.calendar.now in
    let look = c.args.look.now in
    let end = end-word c.end-behind.result look.first look.days c.end-behind.ensures look.near (month-short look.days look.short) in
    held-none list law look c.args.months c.args.day c.requires.look (some-of c.args.months c.if-months-eq0.false) c.requires.valid c.requires.within
    (sym (ap is_valid_day end) ∙ sym c.is_valid.ensures ∙ c.if-not-is_valid.true)

pub months_after-requires-clause-valid : goal.months_after-requires-clause-valid
months_after-requires-clause-valid g c =
    let list = (g.C.Calendar.system c.args.calendar.now).list in
    let law = g.met.C.Calendar.lawful c.args.calendar.now in
    let look = c.args.look.now in
    let next = c.month_of-next.result in
    let end = end-word c.end-behind.result look.first look.days c.end-behind.ensures look.near (month-short look.days look.short) in
    let behind = subst (λ (n : ℤ). InStretch (look_stretch next) n) end c.month_of-next.ensures.within in
    let joins = look-joins list law look next c.requires.look c.month_of-next.ensures.look behind in
    subst IsValidDay (sym joins)
    (is_between-true (neg_ℤ (pos 365242499)) (pos 365242134) (end_of (look_stretch look))
    (sym (ap is_valid_day end) ∙ sym c.is_valid.ensures ∙ c.if-not-is_valid.false))

pub returns-clause-held : goal.returns-clause-held
returns-clause-held g c =
    let list = (g.C.Calendar.system c.args.calendar.now).list in
    let law = g.met.C.Calendar.lawful c.args.calendar.now in
    let look = c.args.look.now in
    let next = c.month_of-next.result in
    let end = end-word c.end-behind.result look.first look.days c.end-behind.ensures look.near (month-short look.days look.short) in
    let behind = subst (λ (n : ℤ). InStretch (look_stretch next) n) end c.month_of-next.ensures.within in
    held-next list law look next c.args.months (c.args.months - 1) c.args.day c.months_after.result
    c.requires.look c.month_of-next.ensures.look (one-less c.args.months c.if-months-eq0.false) c.requires.valid c.requires.within behind
    c.months_after.ensures.found

pub returns-then-months-eq0-clause-first : goal.returns-then-months-eq0-clause-first
returns-then-months-eq0-clause-first g c =
    let look = c.args.look.now in
    month-near look.first c.args.day look.days c.requires.within.0 c.requires.within.1 look.short c.requires.valid

pub returns-clause-first : goal.returns-clause-first
returns-clause-first g c = starts-near c.months_after.result c.months_after.ensures.valid

pub month_of-next-requires-clause-low : goal.month_of-next-requires-clause-low
month_of-next-requires-clause-low g c = (valid-test c.is_valid.result _ c.is_valid.ensures c.if-not-is_valid.false).0

pub month_of-next-requires-clause-high : goal.month_of-next-requires-clause-high
month_of-next-requires-clause-high g c = (valid-test c.is_valid.result _ c.is_valid.ensures c.if-not-is_valid.false).1
