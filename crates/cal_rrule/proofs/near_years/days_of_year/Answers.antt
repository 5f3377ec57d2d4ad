use Rattle.std.proofs.Common.{◌+◌, ap, sym, arith, ℤ, w32, to_z, of_z}
use Rattle.cal_types.specs.CalendarList.{HasPlace, year_length}
use Rattle.cal_types.proofs.ListLemmas.{days_before-end, days_before-first, days_before-next}
use Rattle.cal_rrule.proofs.WordLemmas.{field-word}
use Rattle.cal_rrule.proofs.near_years.days_of_year.Goals as goal

pub loop-before-init : goal.loop-before-init
loop-before-init g c =
    let list = (g.C.Calendar.system c.args.calendar.now).list in
    (sym (days_before-first list (to_z w32 (of_z w32 c.args.year))), omega arith)

pub loop-before-preserved : goal.loop-before-preserved
loop-before-preserved g c =
    let list = (g.C.Calendar.system c.args.calendar.now).list in
    let law = g.met.C.Calendar.lawful c.args.calendar.now in
    let y = to_z w32 (of_z w32 c.args.year) in
    let i = c.loop-before.before + 1 in
    let place : HasPlace list y i = (omega arith, omega (arith, c.loop-before-test.true, c.months_of_year-before-end.ensures)) in
    let next = days_before-next list y i place in
    let short = (law.lengths y i place).1 in (
      omega (arith, next, c.from-days.ensures, c.days_of_month.ensures, c.loop-before.invariant.0),
      omega (arith, short, c.from-days.ensures, c.days_of_month.ensures, c.loop-before.invariant.1),
    )

pub returns : goal.returns
returns g c =
    let list = (g.C.Calendar.system c.args.calendar.now).list in
    let y = to_z w32 (of_z w32 c.args.year) in
    let same = field-word c.args.year (c.requires.low, c.requires.high) in
    let length = ap (λ (z : ℤ). year_length list z) same in
    let whole = days_before-end list y (c.loop-before.before + 1) (omega (arith, c.loop-before-test.false, c.months_of_year-before-end.ensures)) in
    omega (arith, c.loop-before.invariant.0, whole, length)
