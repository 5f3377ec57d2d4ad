use Rattle.std.proofs.Common.{◌≡◌, ◌∙◌, ℤ, pos, ◌+◌, ◌+ℤ◌, ◌<ℤ◌, ◌≤ℤ◌, to_z, of_z, w32, refl, ap, subst, sym, arith}
use Rattle.std.proofs.lemmas.Grind.{common_steps}
use Rattle.cal_days.specs.Day.{IsRuleYear}
use Rattle.cal_days.proofs.Signed.{signed}
use Rattle.cal_types.specs.CalendarList.{month_count, month_number}
use Rattle.cal_types.proofs.ListLemmas.{month_number-next}
use Rattle.cal_arith.proofs.MonthSteps.{months-between}
use Rattle.cal_arith.proofs.WordLemmas.{word, following_word, between, from_to, after-low, after-high, before-next, none_more, none_ticked, not_below, summed, summed-next, ticked, unticked, fewer, few_months, next-end, within-end, next_fits}
use Rattle.cal_arith.proofs.months.months_between_counted.Given.{Over}
use Rattle.cal_arith.proofs.months.months_between_counted.Goals.{After-months_by_number-next, After-from-count}
use Rattle.cal_arith.proofs.months.months_between_counted.Goals as goal

-- the year that the calendar counts up to lies between the first one and the last one
module _ (g : Over) (c : After-months_by_number-next g) where
  abbrev first : ℤ
  first = (g.C.YearShapes.years c.args.cal.now).extended c.args.first

  abbrev last : ℤ
  last = (g.C.YearShapes.years c.args.cal.now).extended c.args.last

  abbrev next : ℤ
  next = c.months_by_number-next.result.0

  to_end : to_z w32 (of_z w32 c.extended_from_year_info-end.result) ≡ last
  to_end = word c.extended_from_year_info-end.result last c.extended_from_year_info-end.ensures c.requires.last.range

  low : first ≤ℤ next
  low = from_to first _ next c.years.invariant.low c.months_by_number-next.ensures.within.0

  high : next ≤ℤ last
  high = subst (λ (z : ℤ). next ≤ℤ z) to_end c.months_by_number-next.ensures.within.1

  rule : IsRuleYear next
  rule = between first last next c.requires.first.range c.requires.last.range low high

  kept : to_z w32 (of_z w32 next) ≡ next
  kept = word next next refl rule

  counted : month_number (g.C.YearShapes.years c.args.cal.now).list next 1 ≡ month_number (g.C.YearShapes.years c.args.cal.now).list first 1 +ℤ pos (c.years.count + c.months_by_number-next.result.1)
  counted = summed _ _ _ c.years.count c.months_by_number-next.result.1 c.months_by_number-next.ensures.count c.years.invariant.counted

pub years-init : goal.years-init
years-init g c =
    let years = g.C.YearShapes.years c.args.cal.now in let first = years.extended c.args.first in
    let same = word c.extended_from_year_info-number.result first c.extended_from_year_info-number.ensures c.requires.first.range in
    record {
      counted = none_more _ _ (ap (λ (y : ℤ). month_number years.list y 1) same);
      low = not_below _ first same;
      high = subst (λ (y : ℤ). y ≤ℤ years.extended c.args.last) (sym same) c.requires.order;
      ticks = none_ticked c.args.steps.now first _ same;
    }

pub overflow_add-count : goal.overflow_add-count
overflow_add-count g c =
    let s = (goal.at.overflow_add-count g c).After-months_by_number-next in
    let most = months-between (g.C.YearShapes.years c.args.cal.now).list (g.met.C.YearShapes.lawful c.args.cal.now) (first g s) (next g s) (low g s) in
    few_months _ _ _ _ _ c.requires.first.range (within-end _ _ (high g s) c.requires.last.range) most.1 (counted g s)

-- where no year is looked up, the last one is reached
pub years-preserved : goal.years-preserved
years-preserved g c =
    let s = (goal.at.years-preserved g c).After-months_by_number-next in
    let years = g.C.YearShapes.years c.args.cal.now in let back = sym (kept g s) in
    record {
      counted = ap (λ (y : ℤ). month_number years.list y 1) (kept g s) ∙ counted g s;
      low = subst (λ (y : ℤ). first g s ≤ℤ y) back (low g s);
      high = subst (λ (y : ℤ). y ≤ℤ last g s) back (high g s);
      ticks = unticked c.years.steps c.args.steps.now (first g s) (to_z w32 c.years.number-bits) _ c.years.invariant.ticks
          (subst (λ (y : ℤ). to_z w32 c.years.number-bits ≤ℤ y) back c.months_by_number-next.ensures.within.0);
    }

pub years-smaller : goal.years-smaller
years-smaller g c =
    let s = (goal.at.years-smaller g c).After-months_by_number-next in
    fewer (last g s) (to_z w32 c.years.number-bits) _ (omega (arith, signed, c.years-test.true, c.if-number-end.false)) (subst (λ (y : ℤ). y ≤ℤ last g s) (sym (kept g s)) (high g s))

pub given_year_counted-year-requires-clause-from : goal.given_year_counted-year-requires-clause-from
given_year_counted-year-requires-clause-from g c =
    let s = (goal.at.given_year_counted-year-requires-clause-from g c).After-months_by_number-next in
    (subst IsRuleYear (sym (kept g s)) (rule g s)).0

pub given_year_counted-year-requires-clause-to : goal.given_year_counted-year-requires-clause-to
given_year_counted-year-requires-clause-to g c =
    let s = (goal.at.given_year_counted-year-requires-clause-to g c).After-months_by_number-next in
    (subst IsRuleYear (sym (kept g s)) (rule g s)).1

-- the months up to the year after it
module _ (g : Over) (c : After-from-count g) (kept : to_z w32 (of_z w32 c.months_by_number-next.result.0) ≡ c.months_by_number-next.result.0) where
  year : (g.C.YearShapes.years c.args.cal.now).extended c.given_year_counted-year.result ≡ c.months_by_number-next.result.0
  year = c.given_year_counted-year.ensures.number ∙ kept

  counted_on : month_number (g.C.YearShapes.years c.args.cal.now).list (c.months_by_number-next.result.0 +ℤ pos 1) 1 ≡ month_number (g.C.YearShapes.years c.args.cal.now).list ((g.C.YearShapes.years c.args.cal.now).extended c.args.first) 1 +ℤ pos (c.years.count + c.months_by_number-next.result.1 + c.from-count.result)
  counted_on =
      let list = (g.C.YearShapes.years c.args.cal.now).list in
      let months = c.from-count.ensures ∙ (c.months_in_provided_year.ensures ∙ ap (month_count list) year) in
      summed-next _ _ _ _ c.years.count c.months_by_number-next.result.1 c.from-count.result
      (subst (λ n. month_number list (c.months_by_number-next.result.0 +ℤ pos 1) 1 ≡ month_number list c.months_by_number-next.result.0 1 +ℤ pos n) (sym months) (month_number-next list c.months_by_number-next.result.0))
      c.months_by_number-next.ensures.count c.years.invariant.counted

pub overflow_add-count-then-number-end : goal.overflow_add-count-then-number-end
overflow_add-count-then-number-end g c =
    let at = goal.at.overflow_add-count-then-number-end g c in let s = at.After-months_by_number-next in
    let most = months-between (g.C.YearShapes.years c.args.cal.now).list (g.met.C.YearShapes.lawful c.args.cal.now) (first g s) (next g s +ℤ pos 1) (after-low (first g s) (next g s) _ refl (low g s)) in
    few_months _ _ _ _ _ c.requires.first.range (next-end _ _ (high g s) c.requires.last.range) most.1 (counted_on g at.After-from-count (kept g s))

pub overflow_add-number : goal.overflow_add-number
overflow_add-number g c =
    let s = (goal.at.overflow_add-number g c).After-months_by_number-next in
    next_fits _ _ (kept g s) (rule g s)

-- a year is looked up where the last one isn't reached yet
below : (g : Over) (c : After-from-count g) → to_z w32 (of_z w32 c.months_by_number-next.result.0) ≡ c.months_by_number-next.result.0
    → to_z w32 (of_z w32 c.extended_from_year_info-end.result) ≡ (g.C.YearShapes.years c.args.cal.now).extended c.args.last
    → c.months_by_number-next.result.0 <ℤ (g.C.YearShapes.years c.args.cal.now).extended c.args.last
below g c here there = omega (arith, signed, here, there, c.if-number-end.true)

pub years-preserved-then-number-end : goal.years-preserved-then-number-end
years-preserved-then-number-end g c =
    let at = goal.at.years-preserved-then-number-end g c in let s = at.After-months_by_number-next in
    let one = following_word _ (next g s) refl (rule g s) in
    record {
      counted = ap (λ (y : ℤ). month_number (g.C.YearShapes.years c.args.cal.now).list y 1) one ∙ counted_on g at.After-from-count (kept g s);
      low = after-low (first g s) (next g s) _ one (low g s);
      high = after-high (next g s) _ (last g s) one (below g at.After-from-count (kept g s) (to_end g s));
      ticks = ticked c.years.steps c.args.steps.now _ (first g s) (to_z w32 c.years.number-bits) (next g s) _ c.given_year_counted-year.ensures.tick c.years.invariant.ticks c.months_by_number-next.ensures.within.0 one;
    }

pub years-smaller-then-number-end : goal.years-smaller-then-number-end
years-smaller-then-number-end g c =
    let at = goal.at.years-smaller-then-number-end g c in let s = at.After-months_by_number-next in
    let one = following_word _ (next g s) refl (rule g s) in
    fewer (last g s) (to_z w32 c.years.number-bits) _ (before-next _ (next g s) _ one c.months_by_number-next.ensures.within.0)
    (after-high (next g s) _ (last g s) one (below g at.After-from-count (kept g s) (to_end g s)))

pub returns-clause-count : goal.returns-clause-count
returns-clause-count g c = grind (arith, common_steps)
