use Rattle.std.proofs.Common.{◌≡◌, ◌∙◌, if◌then◌else◌, ℤ, pos, ◌+ℤ◌, ◌-ℤ◌, to_z, of_z, w32, ap, arith}
use Rattle.std.specs.Prelude.{nat_le}
use Rattle.cal_days.specs.Gregorian.{gregorian_leap, first_of_march}
use Rattle.cal_days.proofs.Signed.{signed}
use Rattle.cal_days.proofs.GregorianLemmas.{gregorian_start-bounds}
use Rattle.cal_types.proofs.PlainMonthLemmas.{plain-place}
use Rattle.cal_base.specs.GregorianList.{gregorian_list}
use Rattle.cal_base.specs.laws.GregorianLaws.{gregorian_list-months, gregorian_list-plain, start_of_year-gregorian}
use Rattle.cal_base.specs.laws.MarchMonths.{day_number-in_march_year}
use Rattle.cal_base.proofs.iso_days.iso_day_number.Goals as goal

pub in_march_year-march_year-requires-clause-month : goal.in_march_year-march_year-requires-clause-month
in_march_year-march_year-requires-clause-month c = plain-place 12 gregorian_list gregorian_list-plain c.args.year c.args.month c.requires.date.place

pub returns-clause-value : goal.returns-clause-value
returns-clause-value c =
    let found = c.in_march_year-march_year in
    let same : to_z w32 (of_z w32 found.result.0) ≡ found.result.0 = omega (arith, signed, found.ensures.range) in
    let given : to_z w32 (of_z w32 c.args.year) ≡ c.args.year = omega (arith, signed, c.requires.year) in
    let year = found.ensures.year ∙ ap (λ (y : ℤ). if nat_le found.result.1 12 then y else y -ℤ pos 1) given in
    let number = day_number-in_march_year gregorian_leap gregorian_list gregorian_list-months c.args.year found.result.0 found.result.1 c.args.month c.args.day found.ensures.month found.ensures.same year in
    omega (arith, signed, number, start_of_year-gregorian (found.result.0 +ℤ pos 1), ap first_of_march same, c.to_i64_date.ensures.value, c.march_start.ensures, c.days_from_march.ensures.value, c.from.ensures, c.from-2.ensures)

pub returns-clause-bound : goal.returns-clause-bound
returns-clause-bound c =
    let found = c.in_march_year-march_year in
    let same : to_z w32 (of_z w32 found.result.0) ≡ found.result.0 = omega (arith, signed, found.ensures.range) in
    let bounds = gregorian_start-bounds (found.result.0 +ℤ pos 1) in
    let before = c.days_from_march.ensures.bound in
    let march = ap first_of_march same in
    (omega (arith, signed, bounds, before, march, found.ensures.range, c.to_i64_date.ensures.value, c.march_start.ensures, c.from.ensures, c.from-2.ensures), omega (arith, signed, bounds, before, march, found.ensures.range, c.to_i64_date.ensures.value, c.march_start.ensures, c.from.ensures, c.from-2.ensures))
