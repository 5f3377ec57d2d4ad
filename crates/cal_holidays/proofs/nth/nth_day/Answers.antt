use Rattle.std.proofs.Common.{◌≡◌, ◌∙◌, ◌+ℤ◌, pos, rules, sym, subst, arith, ℤ, Option, FitsSigned, to_z, of_z, w8, w32, w64}
use Rattle.cal_days.specs.Day.{IsBetween, IsValidDay}
use Rattle.cal_days.proofs.Signed.{signed}
use Rattle.cal_types.specs.MonthParts.{month_parts}
use Rattle.cal_holidays.specs.MonthDays.{IsInMonth, IsMonthAt, IsOnly}
use Rattle.cal_holidays.specs.OwnDays.{IsValidOne}
use Rattle.cal_holidays.proofs.MonthLemmas.{nth-none, nth-one}
use Rattle.cal_holidays.proofs.nth.nth_day.Goals as goal

pub returns-in_err-days : goal.returns-in_err-days
returns-in_err-days g c =
    let s = c.args.calendar.now in
    let list = (g.C.Calendar.system s).list in
    let a = c.args.asked in
    let m = month_parts a.month in
    let fits : FitsSigned w32 c.args.year = search rules in
    let same : to_z w32 (of_z w32 c.args.year) ≡ c.args.year = omega (arith, signed) in
    rw c.from_residual.ensures (nth-none list m c.args.year a.nth a.weekday (λ n valid is. c.in_err-days.ensures n valid (subst (λ (y : ℤ). IsInMonth list m y n) (sym same) is)))

pub returns : goal.returns
returns g c =
    let s = c.args.calendar.now in
    let list = (g.C.Calendar.system s).list in
    let a = c.args.asked in
    let m = month_parts a.month in
    let days = c.in_ok-days.days in
    let found = c.nth_in-day.result in
    let day = to_z w64 (of_z w64 found) in
    let fits : FitsSigned w32 c.args.year = search rules in
    let same : to_z w32 (of_z w32 c.args.year) ≡ c.args.year = omega (arith, signed) in
    let at = subst (λ (y : ℤ). IsMonthAt list m y days.before days.length) same c.in_ok-days.ensures in
    let fits_day : FitsSigned w64 found = search rules in
    let held : day ≡ found = omega (arith, signed) in
    let before : to_z w64 (of_z w64 days.before) ≡ days.before = omega (arith, signed, at.days.near) in
    let fits_nth : FitsSigned w8 a.nth = search rules in
    let nth : to_z w8 (of_z w8 a.nth) ≡ a.nth = omega (arith, signed) in
    let only = subst (λ (d : ℤ). IsOnly a.nth a.weekday days.before days.length d) (sym held)
    (subst (λ (b : ℤ). IsOnly a.nth a.weekday b days.length found) before
    (subst (λ (n : ℤ). IsOnly n a.weekday (to_z w64 (of_z w64 days.before)) days.length found) nth c.nth_in-day.ensures)) in
    nth-one list m c.args.year (g.met.C.Calendar.lawful s) a.nth a.weekday days.before days.length at day c.valid_day.result only c.valid_day.ensures
