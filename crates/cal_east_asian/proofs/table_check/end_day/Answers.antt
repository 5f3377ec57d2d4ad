use Rattle.std.proofs.Common.{arith}
use Rattle.cal_days.proofs.GregorianLemmas.{gregorian_start-bounds}
use Rattle.cal_days.proofs.Signed.{signed}
use Rattle.cal_east_asian.proofs.table_check.end_day.Goals as goal

pub overflow_add-result : goal.overflow_add-result
overflow_add-result c =
    let valid = c.args.year.valid in
    omega (arith, signed, valid.0, valid.1.0, gregorian_start-bounds c.args.year.related_iso, c.from.ensures, c.days_in_year.ensures.bound)

pub returns : goal.returns
returns c =
    let valid = c.args.year.valid in
    omega (arith, signed, valid.0, valid.1.0, gregorian_start-bounds c.args.year.related_iso, c.from.ensures, c.days_in_year.ensures.bound, c.days_in_year.ensures.value)
