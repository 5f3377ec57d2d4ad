use Rattle.std.proofs.Common.{arith}
use Rattle.cal_julian.specs.laws.PersianMonthLaws.{days_before-closed}
use Rattle.cal_julian.proofs.persian_months.days_before_month.Goals as goal

pub returns-clause-value : goal.returns-clause-value
returns-clause-value c leap = omega (arith, c.from-months.ensures, days_before-closed leap c.args.month c.requires.0 c.requires.1)
