use Rattle.std.proofs.Common.{◌≡◌, ◌∙◌, if◌then◌else◌, ℤ, pos, ◌+ℤ◌, ◌-ℤ◌, to_z, of_z, w32, ap, arith}
use Rattle.std.specs.Prelude.{nat_le}
use Rattle.cal_days.specs.Gregorian.{first_of_march}
use Rattle.cal_days.proofs.Signed.{signed}
use Rattle.cal_days.proofs.GregorianLemmas.{gregorian_start-bounds}
use Rattle.cal_types.proofs.PlainMonthLemmas.{plain-place}
use Rattle.cal_julian.specs.IndianList.{indian_list}
use Rattle.cal_julian.specs.laws.IndianLaws.{indian_list-plain}
use Rattle.cal_julian.proofs.IndianMonthLemmas.{day_number-in_vaisakha_year}
use Rattle.cal_julian.proofs.indian.day_number.Goals as goal

pub in_vaisakha_year-vaisakha_year-requires-clause-month : goal.in_vaisakha_year-vaisakha_year-requires-clause-month
in_vaisakha_year-vaisakha_year-requires-clause-month c = plain-place 12 indian_list indian_list-plain c.args.year c.args.month c.requires.date.place

pub returns-clause-value : goal.returns-clause-value
returns-clause-value c =
    let found = c.in_vaisakha_year-vaisakha_year in
    let shifted : to_z w32 (of_z w32 (to_z w32 (of_z w32 found.result.0) +ℤ pos 78)) ≡ found.result.0 +ℤ pos 78 = omega (arith, signed, found.ensures.range) in
    let given : to_z w32 (of_z w32 c.args.year) ≡ c.args.year = omega (arith, signed, c.requires.year) in
    let year = found.ensures.year ∙ ap (λ (y : ℤ). if nat_le found.result.1 12 then y else y -ℤ pos 1) given in
    let number = day_number-in_vaisakha_year c.args.year found.result.0 found.result.1 c.args.month c.args.day found.ensures.month found.ensures.same year in
    omega (arith, signed, number, ap first_of_march shifted, c.to_i64_date.ensures.value, c.march_start.ensures, c.days_from_vaisakha.ensures, c.from.ensures, c.from-2.ensures)

pub returns-clause-bound : goal.returns-clause-bound
returns-clause-bound c =
    let found = c.in_vaisakha_year-vaisakha_year in
    let shifted : to_z w32 (of_z w32 (to_z w32 (of_z w32 found.result.0) +ℤ pos 78)) ≡ found.result.0 +ℤ pos 78 = omega (arith, signed, found.ensures.range) in
    let bounds = gregorian_start-bounds (found.result.0 +ℤ pos 78 +ℤ pos 1) in
    let before = c.days_from_vaisakha.ensures.bound in
    let march = ap first_of_march shifted in
    (omega (arith, signed, bounds, before, march, found.ensures.range, c.to_i64_date.ensures.value, c.march_start.ensures, c.from.ensures, c.from-2.ensures), omega (arith, signed, bounds, before, march, found.ensures.range, c.to_i64_date.ensures.value, c.march_start.ensures, c.from.ensures, c.from-2.ensures))
