use Rattle.std.proofs.Common.{◌≡◌, ℕ, ℤ, ◌-◌, ◌≤◌, ◌+ℤ◌, Some, Bool, true, false, ap, subst, ◌∙◌, arith}
use Rattle.cal_types.specs.declared.options.Overflow.TheVariants.{Constrain}
use Rattle.cal_types.specs.CalendarList.{spot, month_at, month_number, HasPlace}
use Rattle.cal_types.specs.Difference.{toward}
use Rattle.cal_days.proofs.Signed.{signed, by_lt}
use Rattle.cal_types.proofs.ListLemmas.{spot-place, month_number-injective}
use Rattle.cal_types.proofs.DifferenceLemmas.{within-order, greatest-months, greatest-months_less, past_day-beyond}
use Rattle.cal_arith.specs.Dates.{date_of}
use Rattle.cal_arith.specs.Directions.{is_backward}
use Rattle.cal_arith.proofs.WordLemmas.{one_answer}
use Rattle.cal_arith.proofs.DifferenceSteps.{toward-less, reaches-months}
use Rattle.cal_arith.proofs.months_between.months_between.Given.{Over}
use Rattle.cal_arith.proofs.months_between.months_between.Goals.{Start, After-months_toward-count, Then-is_past_day}
use Rattle.cal_arith.proofs.months_between.months_between.Goals as goal

-- facts of the start, over the number that the years lead to
place : (g : Over) (c : Start g) → HasPlace (g.C.YearShapes.years c.args.cal.now).list ((g.C.YearShapes.years c.args.cal.now).extended c.args.start.year) c.args.start.month
place g c =
    let list = (g.C.YearShapes.years c.args.cal.now).list in
    spot-place list ((g.C.YearShapes.years c.args.cal.now).extended c.args.start.year) (month_at list ((g.C.YearShapes.years c.args.cal.now).extended c.args.from.year) c.args.from.month) Constrain c.args.start.month c.requires.start.place

spot_is : (g : Over) (c : Start g) → spot (g.C.YearShapes.years c.args.cal.now).list ((g.C.YearShapes.years c.args.cal.now).extended c.args.from.year +ℤ toward (is_backward c.args.direction) c.args.years) (month_at (g.C.YearShapes.years c.args.cal.now).list ((g.C.YearShapes.years c.args.cal.now).extended c.args.from.year) c.args.from.month) Constrain ≡ Some c.args.start.month
spot_is g c =
    let list = (g.C.YearShapes.years c.args.cal.now).list in
    subst (λ (y : ℤ). spot list y (month_at list ((g.C.YearShapes.years c.args.cal.now).extended c.args.from.year) c.args.from.month) Constrain ≡ Some c.args.start.month) c.requires.start.number c.requires.start.place

pub months_toward-count-requires-clause-start : goal.months_toward-count-requires-clause-start
months_toward-count-requires-clause-start g c = record { year = c.requires.start.year; place = place g (goal.at.months_toward-count-requires-clause-start g c).Start }

pub months_toward-count-requires-clause-order : goal.months_toward-count-requires-clause-order
months_toward-count-requires-clause-order g c =
    within-order (g.C.YearShapes.years c.args.cal.now).list (is_backward c.args.direction) ((g.C.YearShapes.years c.args.cal.now).extended c.args.start.year) c.args.start.month c.args.from.day ((g.C.YearShapes.years c.args.cal.now).extended c.args.to.year) c.args.to.month c.args.to.day (place g (goal.at.months_toward-count-requires-clause-order g c).Start) c.requires.to.date.place c.requires.within

-- how far the second date's month is from the start
distance : (g : Over) (c : After-months_toward-count g) → month_number (g.C.YearShapes.years c.args.cal.now).list ((g.C.YearShapes.years c.args.cal.now).extended c.args.to.year) c.args.to.month ≡ month_number (g.C.YearShapes.years c.args.cal.now).list ((g.C.YearShapes.years c.args.cal.now).extended c.args.from.year +ℤ toward (is_backward c.args.direction) c.args.years) c.args.start.month +ℤ toward (is_backward c.args.direction) c.months_toward-count.result
distance g c =
    c.months_toward-count.ensures.count ∙ ap (λ (y : ℤ). month_number (g.C.YearShapes.years c.args.cal.now).list y c.args.start.month +ℤ toward (is_backward c.args.direction) c.months_toward-count.result) c.requires.start.number

no_months : (back : Bool) (n m : ℤ) (k : ℕ) → k ≤ 0 → m ≡ n +ℤ toward back k → n ≡ m
no_months false n m k none e = omega (arith, signed)
no_months true n m k none e = omega (arith, signed)

some : (g : Over) (c : Then-is_past_day g) → HasPlace (g.C.YearShapes.years c.args.cal.now).list ((g.C.YearShapes.years c.args.cal.now).extended c.args.start.year) c.args.start.month → 1 ≤ c.months_toward-count.result
some g c here =
    let list = (g.C.YearShapes.years c.args.cal.now).list in let y = (g.C.YearShapes.years c.args.cal.now).extended c.args.start.year in let z = (g.C.YearShapes.years c.args.cal.now).extended c.args.to.year in
    by_lt {P = 1 ≤ c.months_toward-count.result} 0 c.months_toward-count.result (λ lt. omega arith) (λ le.
    let same = month_number-injective list y c.args.start.month z c.args.to.month here c.requires.to.date.place (no_months (is_backward c.args.direction) _ _ c.months_toward-count.result le c.months_toward-count.ensures.count) in
    absurd (c.requires.within (past_day-beyond (is_backward c.args.direction) y c.args.start.month z c.args.to.month c.args.from.day c.args.to.day same.0 same.1 (c.is_past_day.ensures.0 c.if-is_past_day.true))))

pub overflow_sub-result : goal.overflow_sub-result
overflow_sub-result g c =
    let s = goal.at.overflow_sub-result g c in
    some g s.Then-is_past_day (place g s.Start)

pub returns-then-is_past_day-clause-greatest : goal.returns-then-is_past_day-clause-greatest
returns-then-is_past_day-clause-greatest g c =
    let s = goal.at.returns-then-is_past_day-clause-greatest g c in
    greatest-months_less (g.C.YearShapes.years c.args.cal.now).list (g.met.C.YearShapes.lawful c.args.cal.now) (is_backward c.args.direction) (date_of (g.C.YearShapes.years c.args.cal.now) c.args.from) (date_of (g.C.YearShapes.years c.args.cal.now) c.args.to) c.args.years c.args.start.month (spot_is g s.Start) c.requires.to.date.place c.months_toward-count.result (distance g s.After-months_toward-count) (some g s.Then-is_past_day (place g s.Start)) (c.is_past_day.ensures.0 c.if-is_past_day.true)

pub returns-then-is_past_day-clause-reaches : goal.returns-then-is_past_day-clause-reaches
returns-then-is_past_day-clause-reaches g c =
    let s = goal.at.returns-then-is_past_day-clause-reaches g c in
    let list = (g.C.YearShapes.years c.args.cal.now).list in
    reaches-months list (date_of (g.C.YearShapes.years c.args.cal.now) c.args.from) (is_backward c.args.direction) c.args.years (c.months_toward-count.result - 1) ((g.C.YearShapes.years c.args.cal.now).extended c.args.start.year) c.args.start.month ((g.C.YearShapes.years c.args.cal.now).extended c.month_short_of-short.result.year) c.month_short_of-short.result.month c.requires.start.number c.requires.start.place c.month_short_of-short.ensures.month.place
    (toward-less (is_backward c.args.direction) _ _ _ c.months_toward-count.result (some g s.Then-is_past_day (place g s.Start)) c.months_toward-count.ensures.count c.month_short_of-short.ensures.next)

pub returns-clause-greatest : goal.returns-clause-greatest
returns-clause-greatest g c =
    let s = goal.at.returns-clause-greatest g c in
    greatest-months (g.C.YearShapes.years c.args.cal.now).list (g.met.C.YearShapes.lawful c.args.cal.now) (is_backward c.args.direction) (date_of (g.C.YearShapes.years c.args.cal.now) c.args.from) (date_of (g.C.YearShapes.years c.args.cal.now) c.args.to) c.args.years c.args.start.month (spot_is g s.Start) c.requires.to.date.place c.months_toward-count.result (distance g s.After-months_toward-count)
    (λ p. one_answer _ (c.is_past_day.ensures.1 p) c.if-is_past_day.false)
