use Rattle.std.proofs.Common.{◌≡◌, rules, subst, arith, ℤ, FitsSigned, to_z, of_z, w32}
use Rattle.cal_days.proofs.Signed.{signed}
use Rattle.cal_types.specs.CalendarList.{day_number}
use Rattle.cal_types.specs.MonthParts.{month_parts}
use Rattle.cal_types.specs.declared.leaping.Leaping.TheVariants.{Exact}
use Rattle.cal_anniversary.specs.YearlyDays.{IsOfYear}
use Rattle.cal_holidays.proofs.MonthLemmas.{month-at}
use Rattle.cal_holidays.proofs.months.month_in.Goals as goal

pub returns-in-Some : goal.returns-in-Some
returns-in-Some g c =
    let s = c.args.calendar.now in
    let list = (g.C.Calendar.system s).list in
    let m = month_parts c.args.month in
    let t = g.C.Calendar.date_of s c.in-Some.date in
    let fits : FitsSigned w32 c.args.year = search rules in
    let same : to_z w32 (of_z w32 c.args.year) ≡ c.args.year = omega (arith, signed) in
    let found = c.in-Some.ensures in
    let is = subst (λ (y : ℤ). IsOfYear list Exact m 1 y (day_number list t)) same found.1 in
    month-at list m c.args.year t c.month_of.result.before c.month_of.result.length is c.month_of.ensures
