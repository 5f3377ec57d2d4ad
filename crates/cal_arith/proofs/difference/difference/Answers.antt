use Rattle.std.proofs.Common.{◌≡◌, ℕ, ℤ, Bool, ◌-◌, ◌*◌, ◌↔◌, ◌+ℤ◌, ◌<ℤ◌, min, IsTrue, ap, subst, sym, ◌∙◌, arith}
use Rattle.cal_days.specs.Day.{IsFieldYear, IsValidDay}
use Rattle.cal_types.specs.CalendarList.{date, day_number, IsValidDate}
use Rattle.cal_types.specs.WithinYear.{Leads}
use Rattle.cal_types.specs.Difference.{toward, IsBeyondDay, IsDifference, admits_weeks}
use Rattle.cal_types.proofs.AddingLemmas.{difference-added_back}
use Rattle.cal_types.proofs.DifferenceLemmas.{base, IsBaseNear, base-within, base-near, days-left, left-small, leads-of}
use Rattle.cal_types.proofs.DifferenceLaws.{IsLeft}
use Rattle.cal_arith.specs.Dates.{date_of}
use Rattle.cal_arith.specs.Directions.{is_backward}
use Rattle.cal_arith.proofs.DifferenceSteps.{difference-parts, weeks-fit, ticks-most}
use Rattle.cal_arith.proofs.difference.difference.Given.{Over}
use Rattle.cal_arith.proofs.difference.difference.Goals.{Start, After-direction_between-direction, After-to_rata_die_inner-base, After-is_backward}
use Rattle.cal_arith.proofs.difference.difference.Goals as goal

from_range : (g : Over) (c : Start g) → IsFieldYear ((g.C.YearShapes.years c.args.cal.now).extended c.args.from.year)
from_range g c = (g.met.C.YearShapes.ranged c.args.cal.now (date_of (g.C.YearShapes.years c.args.cal.now) c.args.from) (record { date = c.requires.from.date; valid = c.requires.from.valid })).0

to_range : (g : Over) (c : Start g) → IsFieldYear ((g.C.YearShapes.years c.args.cal.now).extended c.args.to.year)
to_range g c = (g.met.C.YearShapes.ranged c.args.cal.now (date_of (g.C.YearShapes.years c.args.cal.now) c.args.to) (record { date = c.requires.to.date; valid = c.requires.to.valid })).0

-- the sign is that of the day numbers
sign : (g : Over) (c : After-direction_between-direction g) → IsTrue (is_backward c.direction_between-direction.result) ↔ (day_number (g.C.YearShapes.years c.args.cal.now).list (date_of (g.C.YearShapes.years c.args.cal.now) c.args.to) <ℤ day_number (g.C.YearShapes.years c.args.cal.now).list (date_of (g.C.YearShapes.years c.args.cal.now) c.args.from))
sign g c =
    let list = (g.C.YearShapes.years c.args.cal.now).list in
    let t = date_of (g.C.YearShapes.years c.args.cal.now) c.args.from in let u = date_of (g.C.YearShapes.years c.args.cal.now) c.args.to in (
      λ on. subst (λ (n : ℤ). day_number list u <ℤ n) c.to_rata_die.ensures (subst (λ (n : ℤ). n <ℤ c.to_rata_die.result) c.to_rata_die-second.ensures (c.direction_between-direction.ensures.0 on)),
      λ lt. c.direction_between-direction.ensures.1 (subst (λ (n : ℤ). c.to_rata_die-second.result <ℤ n) (sym c.to_rata_die.ensures) (subst (λ (n : ℤ). n <ℤ day_number list t) (sym c.to_rata_die-second.ensures) lt)),
    )

leads : (g : Over) (c : After-direction_between-direction g) → Leads (g.C.YearShapes.years c.args.cal.now).list (is_backward c.direction_between-direction.result) (date_of (g.C.YearShapes.years c.args.cal.now) c.args.from) (date_of (g.C.YearShapes.years c.args.cal.now) c.args.to)
leads g c = leads-of _ (is_backward c.direction_between-direction.result) _ _ (sign g c).0 (sign g c).1

base_is : (g : Over) (c : After-to_rata_die_inner-base g) → c.to_rata_die_inner-base.result ≡ day_number (g.C.YearShapes.years c.args.cal.now).list (base (g.C.YearShapes.years c.args.cal.now).list (date_of (g.C.YearShapes.years c.args.cal.now) c.args.from) ((g.C.YearShapes.years c.args.cal.now).extended c.admitted_months-reached.result.year) c.admitted_months-reached.result.month)
base_is g c =
    let list = (g.C.YearShapes.years c.args.cal.now).list in let z = (g.C.YearShapes.years c.args.cal.now).extended c.admitted_months-reached.result.year in
    c.to_rata_die_inner-base.ensures ∙ ap (λ (d : ℕ). day_number list (date z c.admitted_months-reached.result.month d)) (c.min.ensures ∙ ap (min c.args.from.day) c.days_in_provided_month-length.ensures)

-- the month and the day in it do not lie past the second date
short : (g : Over) (c : After-to_rata_die_inner-base g) → ¬ IsBeyondDay (is_backward c.direction_between-direction.result) c.to_rata_die_inner-base.result c.to_rata_die-second.result
short g c beyond =
    let list = (g.C.YearShapes.years c.args.cal.now).list in let z = (g.C.YearShapes.years c.args.cal.now).extended c.admitted_months-reached.result.year in
    let reach = c.admitted_months-reached.ensures.reaches in
    base-within list (g.met.C.YearShapes.lawful c.args.cal.now) (is_backward c.direction_between-direction.result) (date_of (g.C.YearShapes.years c.args.cal.now) c.args.from) (date_of (g.C.YearShapes.years c.args.cal.now) c.args.to) z c.admitted_months-reached.result.month reach.moved.place c.requires.from.date.day.0 c.requires.to.date
    (λ past. c.admitted_months-reached.ensures.within (z, c.admitted_months-reached.result.month, reach, past))
    (subst (λ (n : ℤ). IsBeyondDay (is_backward c.direction_between-direction.result) n (day_number list (date_of (g.C.YearShapes.years c.args.cal.now) c.args.to))) (base_is g c) (subst (λ (m : ℤ). IsBeyondDay (is_backward c.direction_between-direction.result) c.to_rata_die_inner-base.result m) c.to_rata_die-second.ensures beyond))

pub month_after_years-start-requires-clause-from_range : goal.month_after_years-start-requires-clause-from_range
month_after_years-start-requires-clause-from_range g c = from_range g (goal.at.month_after_years-start-requires-clause-from_range g c).Start

pub month_after_years-start-requires-clause-to_range : goal.month_after_years-start-requires-clause-to_range
month_after_years-start-requires-clause-to_range g c = to_range g (goal.at.month_after_years-start-requires-clause-to_range g c).Start

pub admitted_months-reached-requires-clause-to_range : goal.admitted_months-reached-requires-clause-to_range
admitted_months-reached-requires-clause-to_range g c = to_range g (goal.at.admitted_months-reached-requires-clause-to_range g c).Start

pub days_apart-left-requires : goal.days_apart-left-requires
days_apart-left-requires g c =
    let s = (goal.at.days_apart-left-requires g c).After-to_rata_die_inner-base in
    let list = (g.C.YearShapes.years c.args.cal.now).list in let z = (g.C.YearShapes.years c.args.cal.now).extended c.admitted_months-reached.result.year in
    let t = date_of (g.C.YearShapes.years c.args.cal.now) c.args.from in
    let near = base-near list (g.met.C.YearShapes.lawful c.args.cal.now) (is_backward c.direction_between-direction.result) t c.admitted_years-years.result c.admitted_months-reached.result.months z c.admitted_months-reached.result.month c.admitted_months-reached.ensures.reaches c.requires.from.date in
    left-small (is_backward c.direction_between-direction.result) (day_number list t) c.to_rata_die-second.result c.to_rata_die_inner-base.result
    (subst (λ (n : ℤ). IsBaseNear (is_backward c.direction_between-direction.result) (day_number list t) n) (sym (base_is g s)) near) (short g s) c.requires.from.valid
    (subst IsValidDay (sym c.to_rata_die-second.ensures) c.requires.to.valid)

-- the days that are left are those from there to the second date
left : (g : Over) (c : After-is_backward g) → After-to_rata_die_inner-base g → IsLeft (g.C.YearShapes.years c.args.cal.now).list (date_of (g.C.YearShapes.years c.args.cal.now) c.args.from) (date_of (g.C.YearShapes.years c.args.cal.now) c.args.to) (is_backward c.direction_between-direction.result) c.admitted_years-years.result c.admitted_months-reached.result.months c.days_apart-left.result
left g c _ =
    let s = (goal.at.returns-clause-until g c).After-to_rata_die_inner-base in
    let b = c.to_rata_die_inner-base.result in let m = c.to_rata_die-second.result in
    let back = is_backward c.direction_between-direction.result in
    record {
      year = (g.C.YearShapes.years c.args.cal.now).extended c.admitted_months-reached.result.year;
      month = c.admitted_months-reached.result.month;
      reaches = c.admitted_months-reached.ensures.reaches;
      apart = sym c.to_rata_die-second.ensures ∙ days-left back b m (short g s) ∙ ap (λ (k : ℕ). b +ℤ toward back k) (sym c.days_apart-left.ensures) ∙ ap (λ (n : ℤ). n +ℤ toward back c.days_apart-left.result) (base_is g s);
    }

pub returns-clause-until : goal.returns-clause-until
returns-clause-until g c =
    let s = goal.at.returns-clause-until g c in
    let w = c.admitted_weeks-weeks.result in let total = c.days_apart-left.result in
    let fit = weeks-fit (admits_weeks c.args.unit) w total c.admitted_weeks-weeks.ensures.weeks c.admitted_weeks-weeks.ensures.none in
    let list = (g.C.YearShapes.years c.args.cal.now).list in
    let t = date_of (g.C.YearShapes.years c.args.cal.now) c.args.from in let u = date_of (g.C.YearShapes.years c.args.cal.now) c.args.to in
    let parts = difference-parts list t u c.args.unit (record { is_negative = is_backward c.direction_between-direction.result; years = c.admitted_years-years.result; months = c.admitted_months-reached.result.months; weeks = w; days = total - 7 * w }) total (sign g s.After-direction_between-direction)
    c.admitted_years-years.ensures.greatest c.admitted_months-reached.ensures.greatest (left g c s.After-to_rata_die_inner-base)
    c.admitted_weeks-weeks.ensures.weeks c.admitted_weeks-weeks.ensures.none (omega (arith, fit)) in
    let found : IsDifference list t u c.args.unit (record { is_negative = c.is_backward.result; years = c.admitted_years-years.result; months = c.admitted_months-reached.result.months; weeks = w; days = total - 7 * w }) = subst (λ (b : Bool). IsDifference list t u c.args.unit (record { is_negative = b; years = c.admitted_years-years.result; months = c.admitted_months-reached.result.months; weeks = w; days = total - 7 * w })) (sym c.is_backward.ensures) parts in
    let laws = g.met.C.YearShapes in
    let h : IsValidDate list t = record { date = c.requires.from.date; valid = c.requires.from.valid } in
    let k : IsValidDate list u = record { date = c.requires.to.date; valid = c.requires.to.valid } in
    let p = laws.ranged c.args.cal.now t h in let q = laws.ranged c.args.cal.now u k in
    record {
      difference = found;
      leads_back = difference-added_back list (laws.lawful c.args.cal.now) t u h k c.args.unit _ found (g.C.YearShapes.years c.args.cal.now).offset p.0 q.0 p.1 q.1 (laws.apart c.args.cal.now t u h k);
    }

pub returns-clause-ticks : goal.returns-clause-ticks
returns-clause-ticks g c =
    let s = goal.at.returns-clause-ticks g c in
    ticks-most (g.C.YearShapes.years c.args.cal.now).list (is_backward c.direction_between-direction.result) (date_of (g.C.YearShapes.years c.args.cal.now) c.args.from) (date_of (g.C.YearShapes.years c.args.cal.now) c.args.to) c.requires.from.date c.requires.to.date (leads g s.After-direction_between-direction)
    c.args.unit c.admitted_years-years.result c.args.steps.now c.month_after_years-start.new.steps c.admitted_months-reached.new.steps ((g.C.YearShapes.years c.args.cal.now).extended c.month_after_years-start.result.year) c.month_after_years-start.ensures.month.number c.admitted_years-years.ensures.greatest
    c.month_after_years-start.ensures.ticks c.admitted_months-reached.ensures.ticks c.admitted_months-reached.ensures.no_ticks
