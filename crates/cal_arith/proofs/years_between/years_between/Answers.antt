use Rattle.std.proofs.Common.{◌≡◌, ℕ, ◌≤◌, ◌-ℤ◌, ◌+ℤ◌, unsigned_abs, to_z, of_z, w32, ap, subst, sym, ◌∙◌, arith}
use Rattle.cal_types.specs.Difference.{toward}
use Rattle.cal_types.specs.WithinYear.{SurpassesInYear}
use Rattle.cal_days.proofs.Signed.{signed, by_lt}
use Rattle.cal_types.proofs.DifferenceLemmas.{leads-years, greatest-years, greatest-years_less, years-one_year}
use Rattle.cal_arith.specs.Dates.{date_of}
use Rattle.cal_arith.specs.Directions.{is_backward}
use Rattle.cal_arith.proofs.WordLemmas.{one_answer}
use Rattle.cal_arith.proofs.years_between.years_between.Given.{Over}
use Rattle.cal_arith.proofs.years_between.years_between.Goals.{After-unsigned_abs-apart, Then-surpasses_in_year}
use Rattle.cal_arith.proofs.years_between.years_between.Goals as goal

count : (g : Over) (c : After-unsigned_abs-apart g) → unsigned_abs ((g.C.YearShapes.years c.args.cal.now).extended c.args.to.year -ℤ (g.C.YearShapes.years c.args.cal.now).extended c.args.from.year) ≡ c.unsigned_abs-apart.result
count g c =
    let span : to_z w32 (of_z w32 (to_z w32 (of_z w32 c.extended_from_year_info-other.result) -ℤ to_z w32 (of_z w32 c.extended_from_year_info-year.result))) ≡ (g.C.YearShapes.years c.args.cal.now).extended c.args.to.year -ℤ (g.C.YearShapes.years c.args.cal.now).extended c.args.from.year = omega (arith, signed, c.requires.from.year.range, c.requires.to.year.range) in
    sym (c.unsigned_abs-apart.ensures.value ∙ ap unsigned_abs span)

apart : (g : Over) (c : After-unsigned_abs-apart g) → (g.C.YearShapes.years c.args.cal.now).extended c.args.to.year ≡ (g.C.YearShapes.years c.args.cal.now).extended c.args.from.year +ℤ toward (is_backward c.args.direction) c.unsigned_abs-apart.result
apart g c =
    subst (λ (n : ℕ). (g.C.YearShapes.years c.args.cal.now).extended c.args.to.year ≡ (g.C.YearShapes.years c.args.cal.now).extended c.args.from.year +ℤ toward (is_backward c.args.direction) n) (count g c)
    (leads-years (g.C.YearShapes.years c.args.cal.now).list (is_backward c.args.direction) (date_of (g.C.YearShapes.years c.args.cal.now) c.args.from) (date_of (g.C.YearShapes.years c.args.cal.now) c.args.to) c.requires.from.date c.requires.to.date c.requires.leads)

pub returns-else-surpasses_in_year : goal.returns-else-surpasses_in_year
returns-else-surpasses_in_year g c =
    greatest-years (g.C.YearShapes.years c.args.cal.now).list (is_backward c.args.direction) (date_of (g.C.YearShapes.years c.args.cal.now) c.args.from) (date_of (g.C.YearShapes.years c.args.cal.now) c.args.to) c.unsigned_abs-apart.result c.stand_in_place-place.result
    (apart g (goal.at.returns-else-surpasses_in_year g c).After-unsigned_abs-apart) c.stand_in_place-place.ensures
    (λ p. one_answer _ (c.surpasses_in_year.ensures.1 p) c.if-surpasses_in_year.false)

passed : (g : Over) (c : Then-surpasses_in_year g) → SurpassesInYear (g.C.YearShapes.years c.args.cal.now).list (is_backward c.args.direction) (date_of (g.C.YearShapes.years c.args.cal.now) c.args.from) (date_of (g.C.YearShapes.years c.args.cal.now) c.args.to) c.stand_in_place-place.result
passed g c = c.surpasses_in_year.ensures.0 c.if-surpasses_in_year.true

some : (g : Over) (c : Then-surpasses_in_year g) → 1 ≤ c.unsigned_abs-apart.result
some g c =
    let list = (g.C.YearShapes.years c.args.cal.now).list in let t = date_of (g.C.YearShapes.years c.args.cal.now) c.args.from in let u = date_of (g.C.YearShapes.years c.args.cal.now) c.args.to in
    by_lt {P = 1 ≤ c.unsigned_abs-apart.result} 0 c.unsigned_abs-apart.result (λ lt. omega arith) (λ le.
    let same : (g.C.YearShapes.years c.args.cal.now).extended c.args.from.year ≡ (g.C.YearShapes.years c.args.cal.now).extended c.args.to.year = omega (arith, signed, count g (goal.at.overflow_sub-result g c).After-unsigned_abs-apart) in
    absurd (years-one_year list (g.met.C.YearShapes.lawful c.args.cal.now) (is_backward c.args.direction) t u c.stand_in_place-place.result c.requires.from.date c.requires.to.date c.requires.leads same c.stand_in_place-place.ensures (passed g c)))

pub overflow_sub-result : goal.overflow_sub-result
overflow_sub-result g c = some g c

pub returns-then-surpasses_in_year : goal.returns-then-surpasses_in_year
returns-then-surpasses_in_year g c =
    greatest-years_less (g.C.YearShapes.years c.args.cal.now).list (is_backward c.args.direction) (date_of (g.C.YearShapes.years c.args.cal.now) c.args.from) (date_of (g.C.YearShapes.years c.args.cal.now) c.args.to) c.unsigned_abs-apart.result c.stand_in_place-place.result
    (apart g (goal.at.returns-then-surpasses_in_year g c).After-unsigned_abs-apart) c.stand_in_place-place.ensures (some g c) (passed g c)
