use Rattle.std.proofs.Common.{◌∙◌, ℤ, pos, ◌+ℤ◌, ◌≤ℤ◌, ◌<ℤ◌, ap, subst, subst₂}
use Rattle.cal_rrule.specs.Looks.{look_stretch}
use Rattle.cal_rrule.specs.Periods.{IsOfWeekdays}
use Rattle.cal_rrule.specs.Stretches.{end_of}
use Rattle.cal_rrule.proofs.LookLemmas.{some}
use Rattle.cal_rrule.proofs.WalkLemmas.{walk-first, walk-marks, walk-next, weekdays-month}
use Rattle.cal_rrule.proofs.WordLemmas.{before-near-end, end-word, less-left, lt-fails, lt-holds, month-short, span-from, span-to, walk-low, walk-on}
use Rattle.cal_rrule.proofs.span_masks.weekdays_by_months.Goals as goal

pub months-init : goal.months-init
months-init g c =
    let list = (g.C.Calendar.system c.args.calendar.now).list in
    let rule = c.args.asked.now.rule in
    let span = c.args.span.now in
    let look = c.month_near-look.result in
    let is = c.month_near-look.ensures.look in
    let within = c.month_near-look.ensures.within in
    let same = span-from span.from span.to span.low span.order span.high in
    let low = subst (λ (n : ℤ). look.first ≤ℤ n) same within.0 in
    let high = subst (λ (n : ℤ). n <ℤ end_of (look_stretch look)) same within.1 in (
      is,
      end-word c.end-end.result look.first look.days c.end-end.ensures look.near (month-short look.days look.short),
      walk-low look.first span.from look.days high (month-short look.days look.short) span.low,
      walk-first c.new-days.result c.add_weekdays_of_month.new.days span.from (look_stretch look) (IsOfWeekdays list rule)
          (c.new-days.ensures.first ∙ c.new.ensures ∙ same) c.new-days.ensures.none
          (weekdays-month list rule look is c.new-days.result c.add_weekdays_of_month.new.days c.requires.counts c.add_weekdays_of_month.ensures) low,
    )

pub months-preserved : goal.months-preserved
months-preserved g c =
    let list = (g.C.Calendar.system c.args.calendar.now).list in
    let rule = c.args.asked.now.rule in
    let span = c.args.span.now in
    let inv = c.months.invariant in
    let look = c.months.look in
    let next = c.month_after-look.result in
    let next_is = c.month_after-look.ensures.look in (
      next_is,
      end-word c.end-end-in-months.result next.first next.days c.end-end-in-months.ensures next.near (month-short next.days next.short),
      walk-on _ look.first next.first look.days inv.2 c.month_after-look.ensures.joins,
      walk-next c.months.days c.add_weekdays_of_month-in-months.new.days span.from (end_of (look_stretch look)) (look_stretch next) (IsOfWeekdays list rule)
          inv.3 c.month_after-look.ensures.joins
          (weekdays-month list rule next next_is c.months.days c.add_weekdays_of_month-in-months.new.days c.requires.counts c.add_weekdays_of_month-in-months.ensures),
    )

pub months-smaller : goal.months-smaller
months-smaller g c =
    let span = c.args.span.now in
    let look = c.months.look in
    let next = c.month_after-look.result in
    let has = some (g.C.Calendar.system c.args.calendar.now).list (g.met.C.Calendar.lawful c.args.calendar.now) next c.month_after-look.ensures.look in
    let before = subst₂ (λ (a b : ℤ). a <ℤ b) c.months.invariant.1 (span-to span.from span.to span.low span.order span.high)
    (lt-holds _ _ c.months-test.true) in
    less-left span.to (end_of (look_stretch look)) (end_of (look_stretch next)) next.days before
    (ap (λ (d : ℤ). d +ℤ pos next.days) c.month_after-look.ensures.joins) has

pub month_after-look-requires-clause-nearby : goal.month_after-look-requires-clause-nearby
month_after-look-requires-clause-nearby g c = c.requires.nearby

pub returns : goal.returns
returns g c =
    let list = (g.C.Calendar.system c.args.calendar.now).list in
    let span = c.args.span.now in
    let inv = c.months.invariant in
    let past = subst₂ (λ (a b : ℤ). a ≤ℤ b) (span-to span.from span.to span.low span.order span.high) inv.1 (lt-fails _ _ c.months-test.false) in
    walk-marks c.months.days span.from (end_of (look_stretch c.months.look)) span.to (IsOfWeekdays list c.args.asked.now.rule) inv.3 past span.few

pub month_after-look-requires-clause-near : goal.month_after-look-requires-clause-near
month_after-look-requires-clause-near g c =
    let span = c.args.span.now in
    let look = c.months.look in
    let before = subst₂ (λ (a b : ℤ). a <ℤ b) c.months.invariant.1 (span-to span.from span.to span.low span.order span.high)
    (lt-holds _ _ c.months-test.true) in
    before-near-end look.first span.to look.days c.months.invariant.2 before span.high
