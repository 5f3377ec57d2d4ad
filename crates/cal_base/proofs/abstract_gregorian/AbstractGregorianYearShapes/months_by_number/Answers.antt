use Rattle.std.proofs.Common.{◌≡◌, ℤ, ◌-ℤ◌, ap, to_z, of_z, w32, arith}
use Rattle.cal_days.proofs.Signed.{signed_casts}
use Rattle.cal_types.specs.CalendarList.{month_number}
use Rattle.cal_types.proofs.PlainMonthLemmas.{month_number-twelve}
use Rattle.cal_base.specs.OffsetList.{offset_list}
use Rattle.cal_base.specs.laws.OffsetListLaws.{offset_list-plain}
use Rattle.cal_base.proofs.abstract_gregorian.AbstractGregorianYearShapes.months_by_number.Goals as goal

pub overflow_cast-result : goal.overflow_cast-result
overflow_cast-result g c = (omega (arith, signed_casts, c.requires.first, c.requires.last, c.requires.order), omega (arith, signed_casts, c.requires.first, c.requires.last, c.requires.order))

pub overflow_mul-result : goal.overflow_mul-result
overflow_mul-result g c = omega (arith, signed_casts, c.requires.first, c.requires.last, c.requires.order)

pub returns-clause-count : goal.returns-clause-count
returns-clause-count g c =
    let apart : to_z w32 (of_z w32 (to_z w32 (of_z w32 c.args.last) -ℤ to_z w32 (of_z w32 c.args.first))) ≡ c.args.last -ℤ c.args.first = omega (arith, signed_casts, c.requires.first, c.requires.last) in
    let there : to_z w32 (of_z w32 c.args.last) ≡ c.args.last = omega (arith, signed_casts, c.requires.last) in
    let number = month_number-twelve (offset_list (g.Y.GregorianYears.offset c.args.self.now.0)) (offset_list-plain (g.Y.GregorianYears.offset c.args.self.now.0)).count in
    omega (arith, signed_casts, apart, c.requires.order, ap (λ (y : ℤ). month_number (offset_list (g.Y.GregorianYears.offset c.args.self.now.0)) y 1) there, number c.args.first 1, number c.args.last 1)
