use Rattle.std.proofs.Common.{arith}
use Rattle.cal_julian.proofs.IndianMonthLemmas.{vaisakha_days_before-closed}
use Rattle.cal_julian.proofs.indian.days_from_vaisakha.Goals as goal

pub returns-clause-value : goal.returns-clause-value
returns-clause-value c = omega (arith, c.from-months.ensures, vaisakha_days_before-closed c.args.month c.requires.0 c.requires.1)
