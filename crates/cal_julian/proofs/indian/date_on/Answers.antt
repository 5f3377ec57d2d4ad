use Rattle.std.proofs.Common.{◌≡◌, pos, ◌+ℤ◌, ◌-ℤ◌, to_z, of_z, w32, ap, arith}
use Rattle.cal_days.specs.Gregorian.{first_of_march}
use Rattle.cal_days.proofs.Signed.{signed}
use Rattle.cal_julian.proofs.IndianMonthLemmas.{on-vaisakha}
use Rattle.cal_julian.proofs.indian.date_on.Goals as goal

pub returns-clause-on : goal.returns-clause-on
returns-clause-on c =
    let found = c.march_year_and_day_from_fixed-march_year in let place = c.month_and_day_from_vaisakha-month in
    let year = to_z w32 (of_z w32 (to_z w32 (of_z w32 found.result.0) -ℤ pos 78)) in
    let same : year +ℤ pos 78 ≡ found.result.0 = omega (arith, signed, found.ensures.range) in
    on-vaisakha year c.args.rd place.result.0 place.result.1 place.ensures.month.0 place.ensures.month.1 place.ensures.day
    (omega (arith, signed, ap first_of_march same, place.ensures.value, found.ensures.day, c.if-since_march-lt-VAISAKHA_AFTER_MARCH.false))
