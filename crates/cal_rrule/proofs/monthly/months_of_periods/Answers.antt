use Rattle.std.proofs.Common.{◌*◌, ◌≤◌, arith}
use Rattle.std.proofs.lemmas.Nat.{mul-le}
use Rattle.cal_rrule.proofs.monthly.months_of_periods.Goals as goal

pub overflow_mul-result : goal.overflow_mul-result
overflow_mul-result c =
    let most : c.from-count.result * c.from-every.result ≤ 4294967295 * 4294967295 =
    mul-le c.from-count.result c.from-every.result 4294967295 4294967295
    (omega (arith, c.from-count.ensures, c.ranges.periods.fits)) (omega (arith, c.from-every.ensures, c.ranges.interval.fits)) in
    omega (arith, most)
