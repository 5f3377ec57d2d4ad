use Rattle.std.proofs.Common.{◌≡◌, ◌∙◌, ◌⊎◌, ℤ, ◌≤ℤ◌, ◌<ℤ◌, refl, subst, to_z, of_z, w64, subst₂}
use Rattle.cal_types.specs.MonthParts.{month_parts}
use Rattle.cal_rrule.specs.Looks.{look_stretch}
use Rattle.cal_rrule.specs.Stretches.{InStretch}
use Rattle.cal_rrule.specs.YearMonths.{IsNamedBefore, IsNamedByMonth, IsOfYearMonths}
use Rattle.cal_rrule.proofs.LookLemmas.{some}
use Rattle.cal_rrule.proofs.MaskLemmas.{adds-as, adds-none, adds-then}
use Rattle.cal_rrule.proofs.MonthDayLemmas.{marks-added}
use Rattle.cal_rrule.proofs.NamedMonthLemmas.{before-all, before-next, before-none, look-in_year, look-starts}
use Rattle.cal_rrule.proofs.WordLemmas.{begins-past, begins-within, end-word, less-left, lt-holds, near-word, same-least, span-from, walk-on, within-near}
use Rattle.cal_rrule.proofs.named_months.days_in_months.Goals as goal

pub months-init : goal.months-init
months-init g c =
    let list = (g.C.Calendar.system c.args.calendar.now).list in
    let law = g.met.C.Calendar.lawful c.args.calendar.now in
    let a = c.args.asked.now in
    let start = month_parts a.month.month in
    let year = c.args.year.now in
    let look = c.month_near-look.result in
    let is = c.month_near-look.ensures.look in
    let within = c.month_near-look.ensures.within in
    let begins = c.requires.year.is_start in
    let starts = look-starts list law year.year look is
    (subst (λ (n : ℤ). InStretch (look_stretch look) n) (near-word year.first year.near ∙ begins) within) in (
      is,
      same-least year.first look.first _ begins starts,
      adds-none c.new-days.result (IsNamedBefore list a.rule start a.day_of_month year.year look.first)
          (before-none list law a.rule start a.day_of_month year.year look.first (same-least look.first _ _ starts refl)),
    )

pub months-preserved : goal.months-preserved
months-preserved g c =
    let list = (g.C.Calendar.system c.args.calendar.now).list in
    let law = g.met.C.Calendar.lawful c.args.calendar.now in
    let a = c.args.asked.now in
    let start = month_parts a.month.month in
    let year = c.args.year.now in
    let inv = c.months.invariant in
    let look = c.months.look in
    let next = c.month_after-next.result in
    let next_is = c.month_after-next.ensures.look in
    let joins = c.month_after-next.ensures.joins in
    let low = subst (λ (d : ℤ). d ≤ℤ look.first) c.requires.year.is_start inv.1 in
    let high = begins-within look.first year.first c.end-end.result _ year.days _ look.near year.near year.short c.end-end.ensures
    c.requires.year.is_start c.requires.year.is_whole c.months-test.true in
    let same = look-in_year list law year.year look inv.0 low high in (
      next_is,
      walk-on year.first look.first next.first look.days inv.1 joins,
      adds-as c.new-days.result c.add_by_month.new.days
          (λ n. IsNamedBefore list a.rule start a.day_of_month year.year look.first n
          ⊎ IsNamedByMonth list a.rule start a.day_of_month look.year look.place n)
          (IsNamedBefore list a.rule start a.day_of_month year.year next.first)
          (adds-then c.new-days.result c.months.days c.add_by_month.new.days
          (IsNamedBefore list a.rule start a.day_of_month year.year look.first)
          (IsNamedByMonth list a.rule start a.day_of_month look.year look.place)
          inv.2 (c.add_by_month.ensures list law inv.0 next_is joins))
          (before-next list law a.rule start a.day_of_month year.year look next inv.0 next_is joins same),
    )

pub months-smaller : goal.months-smaller
months-smaller g c =
    let look = c.months.look in
    let end = to_z w64 (of_z w64 c.end-end.result) in
    let has = some (g.C.Calendar.system c.args.calendar.now).list (g.met.C.Calendar.lawful c.args.calendar.now) look c.months.invariant.0 in
    let before = subst (λ (d : ℤ). d <ℤ end) (near-word look.first look.near) (lt-holds _ _ c.months-test.true) in
    less-left end look.first c.month_after-next.result.first look.days before c.month_after-next.ensures.joins has

pub month_after-next-requires-clause-nearby : goal.month_after-next-requires-clause-nearby
month_after-next-requires-clause-nearby g c = c.requires.nearby

pub returns : goal.returns
returns g c =
    let list = (g.C.Calendar.system c.args.calendar.now).list in
    let law = g.met.C.Calendar.lawful c.args.calendar.now in
    let a = c.args.asked.now in
    let start = month_parts a.month.month in
    let year = c.args.year.now in
    let span = c.args.span.now in
    let inv = c.months.invariant in
    let look = c.months.look in
    let from : c.new.result ≡ span.from = c.new.ensures ∙ span-from span.from span.to span.low span.order span.high in
    let past = begins-past look.first year.first c.end-end.result _ year.days _ look.near year.near year.short c.end-end.ensures
    c.requires.year.is_start c.requires.year.is_whole c.months-test.false in
    marks-added c.new-days.result c.months.days span.from span.to (IsOfYearMonths list a.rule start a.day_of_month year.year)
    (c.new-days.ensures.first ∙ from) c.new-days.ensures.none
    (adds-as c.new-days.result c.months.days (IsNamedBefore list a.rule start a.day_of_month year.year look.first)
    (IsOfYearMonths list a.rule start a.day_of_month year.year) inv.2
    (before-all list law a.rule start a.day_of_month year.year a.missing c.requires.missing look.first past)) span.few

pub month_after-next-requires-clause-near : goal.month_after-next-requires-clause-near
month_after-next-requires-clause-near g c =
    let year = c.args.year.now in
    let look = c.months.look in
    let before = subst₂ (λ (a b : ℤ). a <ℤ b) (near-word look.first look.near)
    (end-word c.end-end.result year.first year.days c.end-end.ensures year.near year.short) (lt-holds _ _ c.months-test.true) in
    within-near look.first year.first year.days c.months.invariant.1 before year.short c.requires.near
