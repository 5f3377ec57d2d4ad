use Rattle.std.proofs.Common.{◌≡◌, ℤ, subst, to_z, of_z, w32, arith}
use Rattle.cal_days.proofs.Signed.{signed}
use Rattle.cal_types.specs.CalendarList.{date, IsOn}
use Rattle.cal_julian.specs.JulianList.{julian_list}
use Rattle.cal_julian.proofs.julian.JulianYears.year_month_day.Goals as goal

pub returns-clause-on : goal.returns-clause-on
returns-clause-on c =
    let found = c.date_on-extended_year.result in
    let same : found.0 ≡ to_z w32 (of_z w32 found.0) = omega (arith, signed, c.date_on-extended_year.ensures.year) in
    subst (λ (y : ℤ). IsOn julian_list c.args.rd (date y found.1 found.2)) same c.date_on-extended_year.ensures.on
