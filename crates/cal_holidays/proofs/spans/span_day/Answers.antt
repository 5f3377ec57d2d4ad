use Rattle.std.proofs.Common.{◌≡◌, rules, sym, subst, arith, ℤ, MatchOption, FitsSigned, to_z, of_z, w32, w64}
use Rattle.cal_days.specs.Day.{IsValidDay}
use Rattle.cal_days.proofs.Signed.{signed}
use Rattle.cal_types.specs.MonthParts.{month_parts}
use Rattle.cal_types.specs.declared.leaping.Leaping.TheVariants.{Exact}
use Rattle.cal_anniversary.specs.YearlyDays.{IsOfYear}
use Rattle.cal_holidays.proofs.OwnDayLemmas.{span-none, span-one}
use Rattle.cal_holidays.proofs.spans.span_day.Goals as goal

pub returns-in_err-day : goal.returns-in_err-day
returns-in_err-day g c =
    let s = c.args.calendar.now in
    let list = (g.C.Calendar.system s).list in
    let a = c.args.asked in
    let m = month_parts a.month in
    let fits : FitsSigned w32 c.args.year = search rules in
    let same : to_z w32 (of_z w32 c.args.year) ≡ c.args.year = omega (arith, signed) in
    rw c.from_residual.ensures (span-none list (g.met.C.Calendar.lawful s) m a.day a.week a.weekday c.args.year
    (λ n is. c.in_err-day.ensures n (subst (λ (y : ℤ). IsOfYear list Exact m a.day y n) (sym same) is)))

pub returns : goal.returns
returns g c =
    let s = c.args.calendar.now in
    let list = (g.C.Calendar.system s).list in
    let a = c.args.asked in
    let m = month_parts a.month in
    let fits : FitsSigned w32 c.args.year = search rules in
    let same : to_z w32 (of_z w32 c.args.year) ≡ c.args.year = omega (arith, signed) in
    let is = subst (λ (y : ℤ). IsOfYear list Exact m a.day y c.in_ok-day.day) same c.in_ok-day.ensures in
    let found = c.weekday_in.result in
    let fits_day : FitsSigned w64 found = search rules in
    let held : to_z w64 (of_z w64 found) ≡ found = omega (arith, signed) in
    span-one list (g.met.C.Calendar.lawful s) m a.day a.week a.weekday c.args.year c.in_ok-day.day found c.valid_day.result is c.weekday_in.ensures.on c.weekday_in.ensures.within
    (subst (λ (z : ℤ). MatchOption c.valid_day.result (IsValidDay z → ⊥) (λ d. (d ≡ z) × IsValidDay z)) held c.valid_day.ensures)
