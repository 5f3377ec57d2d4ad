use Rattle.std.proofs.Common.{◌≡◌, rules, sym, subst, arith, ℤ, FitsSigned, to_z, of_z, w8, w32}
use Rattle.cal_days.proofs.Signed.{signed}
use Rattle.cal_types.specs.MonthParts.{month_parts}
use Rattle.cal_anniversary.specs.FallingOn.{FallsOn}
use Rattle.cal_holidays.specs.NamedDays.{IsInYear, IsNthWeekday, OwnDay}
use Rattle.cal_holidays.specs.OwnDays.{IsValidOne}
use Rattle.cal_holidays.specs.Rules.{rule_said}
use Rattle.cal_holidays.proofs.own_days.own_day.Goals as goal

pub returns-in-Fixed : goal.returns-in-Fixed
returns-in-Fixed g c =
    let list = (g.C.Calendar.system c.args.calendar.now).list in
    let fits : FitsSigned w32 c.args.year = search rules in
    let same : to_z w32 (of_z w32 c.args.year) ≡ c.args.year = omega (arith, signed) in
    subst (λ r. IsValidOne (OwnDay list (rule_said r) c.args.year) c.yearly_day.result) (sym c.in-Fixed.is)
    (subst (λ (y : ℤ). IsValidOne (λ n. FallsOn list c.in-Fixed.leaping (month_parts c.in-Fixed.month) c.in-Fixed.day n × IsInYear list y n) c.yearly_day.result) same c.yearly_day.ensures)

pub returns-in-Nth : goal.returns-in-Nth
returns-in-Nth g c =
    let list = (g.C.Calendar.system c.args.calendar.now).list in
    let fits : FitsSigned w32 c.args.year = search rules in
    let same : to_z w32 (of_z w32 c.args.year) ≡ c.args.year = omega (arith, signed) in
    let fits_nth : FitsSigned w8 c.in-Nth.nth = search rules in
    let nth : to_z w8 (of_z w8 c.in-Nth.nth) ≡ c.in-Nth.nth = omega (arith, signed) in
    subst (λ r. IsValidOne (OwnDay list (rule_said r) c.args.year) c.nth_day.result) (sym c.in-Nth.is)
    (subst (λ (k : ℤ). IsValidOne (λ n. IsNthWeekday list (month_parts c.in-Nth.month) k c.in-Nth.weekday n × IsInYear list c.args.year n) c.nth_day.result) nth
    (subst (λ (y : ℤ). IsValidOne (λ n. IsNthWeekday list (month_parts c.in-Nth.month) (to_z w8 (of_z w8 c.in-Nth.nth)) c.in-Nth.weekday n × IsInYear list y n) c.nth_day.result) same c.nth_day.ensures))
