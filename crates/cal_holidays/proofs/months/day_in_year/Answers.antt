use Rattle.std.proofs.Common.{rules, ◌≡◌, sym, subst, arith, ℤ, FitsSigned, w32, to_z, of_z}
use Rattle.cal_days.proofs.Signed.{signed}
use Rattle.cal_types.specs.MonthParts.{month_parts}
use Rattle.cal_anniversary.specs.YearlyDays.{IsOfYear}
use Rattle.cal_holidays.proofs.months.day_in_year.Goals as goal

pub returns-in_err-date : goal.returns-in_err-date
returns-in_err-date g c =
    let fits : FitsSigned w32 c.args.year = search rules in
    let same : to_z w32 (of_z w32 c.args.year) ≡ c.args.year = omega (arith, signed) in
    let list = (g.C.Calendar.system c.args.calendar.now).list in
    let a = c.args.asked in
    rw c.from_residual.ensures (λ n is. c.in_err-date.ensures n (subst (λ (y : ℤ). IsOfYear list a.leaping (month_parts a.month) a.day y n) (sym same) is))
