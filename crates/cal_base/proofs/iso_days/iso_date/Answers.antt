use Rattle.std.proofs.Common.{◌≡◌, pos, ◌+ℤ◌, to_z, of_z, w32, ap, arith}
use Rattle.cal_days.specs.Gregorian.{gregorian_leap, first_of_march}
use Rattle.cal_days.proofs.Signed.{signed}
use Rattle.cal_base.specs.GregorianList.{gregorian_list}
use Rattle.cal_base.specs.laws.GregorianLaws.{gregorian_list-months, start_of_year-gregorian}
use Rattle.cal_base.specs.laws.MarchMonths.{on-march, on-next}
use Rattle.cal_base.proofs.iso_days.iso_date.Goals as goal

pub returns-then-month-gt12-clause-on : goal.returns-then-month-gt12-clause-on
returns-then-month-gt12-clause-on c =
    let found = c.march_year_and_day_from_fixed-year in let place = c.month_and_day_from_march-month in
    let year = found.result.0 in
    let next : to_z w32 (of_z w32 (to_z w32 (of_z w32 year) +ℤ pos 1)) ≡ year +ℤ pos 1 = omega (arith, signed, found.ensures.range) in
    on-next gregorian_leap gregorian_list gregorian_list-months year _ c.args.rd place.result.0 place.result.1 next
    c.if-month-gt12.true place.ensures.month.1 place.ensures.day
    (omega (arith, signed, start_of_year-gregorian (year +ℤ pos 1), place.ensures.value, found.ensures.day))
    (omega (arith, signed, start_of_year-gregorian (to_z w32 (of_z w32 (to_z w32 (of_z w32 year) +ℤ pos 1)) +ℤ pos 1), ap first_of_march next, found.ensures.within))

pub returns-else-month-gt12-clause-on : goal.returns-else-month-gt12-clause-on
returns-else-month-gt12-clause-on c =
    let found = c.march_year_and_day_from_fixed-year in let place = c.month_and_day_from_march-month in
    let year = found.result.0 in
    let same : to_z w32 (of_z w32 year) ≡ year = omega (arith, signed, found.ensures.range) in
    on-march gregorian_leap gregorian_list gregorian_list-months (to_z w32 (of_z w32 year)) c.args.rd place.result.0 place.result.1
    place.ensures.month.0 c.if-month-gt12.false place.ensures.day
    (omega (arith, signed, start_of_year-gregorian (to_z w32 (of_z w32 year) +ℤ pos 1), ap first_of_march same, place.ensures.value, found.ensures.day))
