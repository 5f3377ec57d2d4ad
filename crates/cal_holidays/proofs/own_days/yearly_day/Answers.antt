use Rattle.std.proofs.Common.{rules, ◌≡◌, subst, arith, ℤ, FitsSigned, w32, to_z, of_z}
use Rattle.cal_days.proofs.Signed.{signed}
use Rattle.cal_types.specs.MonthParts.{month_parts}
use Rattle.cal_anniversary.specs.YearlyDays.{IsDayInYear}
use Rattle.cal_holidays.proofs.OwnDayLemmas.{of_year-one}
use Rattle.cal_holidays.proofs.own_days.yearly_day.Goals as goal

pub returns : goal.returns
returns g c =
    let fits : FitsSigned w32 c.args.year = search rules in
    let same : to_z w32 (of_z w32 c.args.year) ≡ c.args.year = omega (arith, signed) in
    let s = c.args.calendar.now in
    let list = (g.C.Calendar.system s).list in
    let a = c.args.asked in
    let m = month_parts a.month in
    of_year-one list (g.met.C.Calendar.lawful s) a.leaping m a.day c.args.year c.day_in_year.result
    (subst (λ (y : ℤ). IsDayInYear list a.leaping m a.day y c.day_in_year.result) same c.day_in_year.ensures)
