use Rattle.std.proofs.Common.{◌<◌, refl, arith}
use Rattle.cal_base.specs.laws.MarchMonths.{march_month_found, march_day_found}
use Rattle.cal_base.proofs.gregorian_months.month_and_day_from_march.Goals as goal

pub returns-clause-day : goal.returns-clause-day
returns-clause-day c =
    let p = c.from.result in let small : p < 366 = omega (arith, c.from.ensures, c.requires) in
    let month = march_month_found p small in
    (omega arith, omega (arith, (march_day_found p _ small month.0 month.1 refl).1))

pub returns-clause-value : goal.returns-clause-value
returns-clause-value c =
    let p = c.from.result in let small : p < 366 = omega (arith, c.from.ensures, c.requires) in
    let month = march_month_found p small in
    omega (arith, c.from.ensures, (march_day_found p _ small month.0 month.1 refl).0)
