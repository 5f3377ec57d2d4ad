use Rattle.std.proofs.Common.{◌≡◌, ◌+◌, ◌-◌, pos, ◌+ℤ◌, arith}
use Rattle.cal_types.specs.CalendarList.{days_before, start_of_year, HasPlace}
use Rattle.cal_days.proofs.Signed.{signed}
use Rattle.cal_types.proofs.ListLemmas.{first-place, days_before-first, place-next, on-rest}
use Rattle.cal_arith.proofs.dates.month_by_month.Given.{Over}
use Rattle.cal_arith.proofs.dates.month_by_month.Goals.{In-months}
use Rattle.cal_arith.proofs.dates.month_by_month.Goals as goal

pub length_of_month-length-requires-clause-place : goal.length_of_month-length-requires-clause-place
length_of_month-length-requires-clause-place g c = first-place _ _ (g.met.C.YearShapes.lawful c.args.cal.now)

pub months-init : goal.months-init
months-init g c =
    record {
      place = first-place _ _ (g.met.C.YearShapes.lawful c.args.cal.now);
      days = omega (arith, days_before-first (g.C.YearShapes.years c.args.cal.now).list ((g.C.YearShapes.years c.args.cal.now).extended c.args.year));
      length = omega arith;
    }

-- the next month of the year, where the day is not in this one
next : (g : Over) (c : In-months g) → HasPlace (g.C.YearShapes.years c.args.cal.now).list ((g.C.YearShapes.years c.args.cal.now).extended c.args.year) (c.months.month + 1) × (days_before (g.C.YearShapes.years c.args.cal.now).list ((g.C.YearShapes.years c.args.cal.now).extended c.args.year) (c.months.month + 1) + (c.months.rest - c.months.length) ≡ days_before (g.C.YearShapes.years c.args.cal.now).list ((g.C.YearShapes.years c.args.cal.now).extended c.args.year) c.months.month + c.months.rest)
next g c =
    let list = (g.C.YearShapes.years c.args.cal.now).list in let y = (g.C.YearShapes.years c.args.cal.now).extended c.args.year in
    let next_place = place-next list y c.months.month c.months.rest c.months.invariant.place (omega arith) (omega arith) in
    (next_place.0, omega (arith, next_place.1))

pub length_of_month-length-requires-in-months-clause-place : goal.length_of_month-length-requires-in-months-clause-place
length_of_month-length-requires-in-months-clause-place g c = (next g c).0

pub months-preserved : goal.months-preserved
months-preserved g c =
    let s = (goal.at.months-preserved g c).In-months in
    record { place = (next g s).0; days = omega (arith, (next g s).1); length = omega arith }

pub returns : goal.returns
returns g c =
    let list = (g.C.YearShapes.years c.args.cal.now).list in let y = (g.C.YearShapes.years c.args.cal.now).extended c.args.year in
    let days = c.months.invariant.days in
    on-rest list y c.months.month c.months.rest (start_of_year list y +ℤ pos c.args.day_of_year) c.months.invariant.place (omega (arith, signed, days)) (omega arith)
