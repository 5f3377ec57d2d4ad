use Rattle.std.proofs.Common.{arith}
use Rattle.cal_julian.proofs.persian_months.days_before_day.Goals as goal

pub returns-clause-value : goal.returns-clause-value
returns-clause-value c leap = omega (arith, c.from.ensures, c.days_before_month.ensures.value leap)
