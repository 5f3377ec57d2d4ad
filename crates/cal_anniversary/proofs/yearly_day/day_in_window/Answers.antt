use Rattle.std.proofs.Common.{rules, ◌≡◌, sym, subst, arith, ℤ, FitsSigned, w32, to_z, of_z}
use Rattle.cal_days.proofs.Signed.{signed}
use Rattle.cal_types.specs.MonthParts.{month_parts}
use Rattle.cal_anniversary.specs.YearlyDays.{IsOfYear}
use Rattle.cal_anniversary.proofs.YearLemmas.{none-outside}
use Rattle.cal_anniversary.proofs.yearly_day.day_in_window.Goals as goal

pub returns-in_err-day : goal.returns-in_err-day
returns-in_err-day g c =
    let fits : FitsSigned w32 c.args.year = search rules in
    let same : to_z w32 (of_z w32 c.args.year) ≡ c.args.year = omega (arith, signed) in
    let list = (g.C.Calendar.system c.args.calendar.now).list in
    let a = c.args.asked in
    rw c.from_residual.ensures (λ n within there. c.in_err-day.ensures n (subst (λ (y : ℤ). IsOfYear list a.leaping (month_parts a.month) a.day y n) (sym same) there))

pub returns-else-contains : goal.returns-else-contains
returns-else-contains g c n within there =
    let fits : FitsSigned w32 c.args.year = search rules in
    let same : to_z w32 (of_z w32 c.args.year) ≡ c.args.year = omega (arith, signed) in
    let list = (g.C.Calendar.system c.args.calendar.now).list in
    let a = c.args.asked in
    let day = subst (λ (y : ℤ). IsOfYear list a.leaping (month_parts a.month) a.day y c.in_ok-day.day) same c.in_ok-day.ensures in
    none-outside list (g.met.C.Calendar.lawful c.args.calendar.now) a.leaping (month_parts a.month) a.day c.args.window.first c.args.window.last c.args.year c.in_ok-day.day day (λ inside. let found = c.if-contains.ensures.1 inside in cc) n within there
