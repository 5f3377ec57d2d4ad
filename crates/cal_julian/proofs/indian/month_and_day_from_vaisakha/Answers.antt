use Rattle.std.proofs.Common.{◌+◌, ◌-◌, ◌/◌, arith}
use Rattle.cal_julian.proofs.IndianMonthLemmas.{vaisakha_days_before-closed}
use Rattle.cal_julian.proofs.indian.month_and_day_from_vaisakha.Goals as goal

pub returns-then-day-lt155-clause-value : goal.returns-then-day-lt155-clause-value
returns-then-day-lt155-clause-value c =
    let found = c.months_and_day-months in
    let closed = vaisakha_days_before-closed (found.result.0 + 2) (omega arith) (omega (arith, found.ensures, c.if-day-lt155.true)) in
    omega (arith, closed, found.ensures, c.if-day-lt155.true)

pub returns-else-day-lt155-clause-value : goal.returns-else-day-lt155-clause-value
returns-else-day-lt155-clause-value c =
    let closed = vaisakha_days_before-closed ((c.args.day - 155) / 30 + 7) (omega arith) (omega (arith, c.requires)) in
    omega (arith, closed, c.if-day-lt155.false, c.requires)
