use Rattle.std.proofs.Common.{arith}
use Rattle.cal_days.proofs.Signed.{signed}
use Rattle.recurrence_sets.proofs.period_days.PeriodDays.keep_days.Goals as goal

pub returns-clause-row : goal.returns-clause-row
returns-clause-row c = λ n has.
    let row = c.keep_common.ensures.row n has in
    (omega (arith, signed, row.0, c.new-run.ensures.first), omega (arith, signed, row.1, c.new-run.ensures.first))
