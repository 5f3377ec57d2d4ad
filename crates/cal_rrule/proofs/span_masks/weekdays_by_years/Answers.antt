use Rattle.std.proofs.Common.{◌∙◌, ℤ, pos, ◌+ℤ◌, ◌≤ℤ◌, ◌<ℤ◌, ap, subst, subst₂}
use Rattle.cal_rrule.specs.Looks.{look_year}
use Rattle.cal_rrule.specs.Periods.{IsOfWeekdays}
use Rattle.cal_rrule.specs.Stretches.{end_of}
use Rattle.cal_rrule.proofs.NearYearLemmas.{some-days}
use Rattle.cal_rrule.proofs.WalkLemmas.{walk-first, walk-marks, walk-next, weekdays-year}
use Rattle.cal_rrule.proofs.WordLemmas.{before-near-end, end-word, less-left, lt-fails, lt-holds, span-from, span-to, walk-low, walk-on}
use Rattle.cal_rrule.proofs.span_masks.weekdays_by_years.Goals as goal

pub years-init : goal.years-init
years-init g c =
    let list = (g.C.Calendar.system c.args.calendar.now).list in
    let rule = c.args.asked.now.rule in
    let span = c.args.span.now in
    let look = c.year_near-look.result in
    let is = c.year_near-look.ensures.look in
    let within = c.year_near-look.ensures.within in
    let same = span-from span.from span.to span.low span.order span.high in
    let low = subst (λ (n : ℤ). look.first ≤ℤ n) same within.0 in
    let high = subst (λ (n : ℤ). n <ℤ end_of (look_year look)) same within.1 in (
      is,
      end-word c.end-end.result look.first look.days c.end-end.ensures look.near look.short,
      walk-low look.first span.from look.days high look.short span.low,
      walk-first c.new-days.result c.add_weekdays_of_year.new.days span.from (look_year look) (IsOfWeekdays list rule)
          (c.new-days.ensures.first ∙ c.new.ensures ∙ same) c.new-days.ensures.none
          (weekdays-year list rule look is c.new-days.result c.add_weekdays_of_year.new.days c.requires.counts c.add_weekdays_of_year.ensures) low,
    )

pub years-preserved : goal.years-preserved
years-preserved g c =
    let list = (g.C.Calendar.system c.args.calendar.now).list in
    let rule = c.args.asked.now.rule in
    let span = c.args.span.now in
    let inv = c.years.invariant in
    let look = c.years.look in
    let next = c.year_after-look.result in
    let next_is = c.year_after-look.ensures.look in (
      next_is,
      end-word c.end-end-in-years.result next.first next.days c.end-end-in-years.ensures next.near next.short,
      walk-on _ look.first next.first look.days inv.2 c.year_after-look.ensures.joins,
      walk-next c.years.days c.add_weekdays_of_year-in-years.new.days span.from (end_of (look_year look)) (look_year next) (IsOfWeekdays list rule)
          inv.3 c.year_after-look.ensures.joins
          (weekdays-year list rule next next_is c.years.days c.add_weekdays_of_year-in-years.new.days c.requires.counts c.add_weekdays_of_year-in-years.ensures),
    )

pub years-smaller : goal.years-smaller
years-smaller g c =
    let span = c.args.span.now in
    let look = c.years.look in
    let next = c.year_after-look.result in
    let has = some-days (g.C.Calendar.system c.args.calendar.now).list (g.met.C.Calendar.lawful c.args.calendar.now) next c.year_after-look.ensures.look in
    let before = subst₂ (λ (a b : ℤ). a <ℤ b) c.years.invariant.1 (span-to span.from span.to span.low span.order span.high)
    (lt-holds _ _ c.years-test.true) in
    less-left span.to (end_of (look_year look)) (end_of (look_year next)) next.days before
    (ap (λ (d : ℤ). d +ℤ pos next.days) c.year_after-look.ensures.joins) has

pub year_after-look-requires-clause-nearby : goal.year_after-look-requires-clause-nearby
year_after-look-requires-clause-nearby g c = c.requires.nearby

pub returns : goal.returns
returns g c =
    let list = (g.C.Calendar.system c.args.calendar.now).list in
    let span = c.args.span.now in
    let inv = c.years.invariant in
    let past = subst₂ (λ (a b : ℤ). a ≤ℤ b) (span-to span.from span.to span.low span.order span.high) inv.1 (lt-fails _ _ c.years-test.false) in
    walk-marks c.years.days span.from (end_of (look_year c.years.look)) span.to (IsOfWeekdays list c.args.asked.now.rule) inv.3 past span.few

pub year_after-look-requires-clause-near : goal.year_after-look-requires-clause-near
year_after-look-requires-clause-near g c =
    let span = c.args.span.now in
    let look = c.years.look in
    let before = subst₂ (λ (a b : ℤ). a <ℤ b) c.years.invariant.1 (span-to span.from span.to span.low span.order span.high)
    (lt-holds _ _ c.years-test.true) in
    before-near-end look.first span.to look.days c.years.invariant.2 before span.high
