use Rattle.std.proofs.Common.{◌≡◌, ℤ, ◌-ℤ◌, ap, to_z, of_z, w32, arith}
use Rattle.cal_days.proofs.Signed.{signed_casts}
use Rattle.cal_types.specs.CalendarList.{month_number}
use Rattle.cal_types.proofs.PlainMonthLemmas.{month_number-twelve}
use Rattle.cal_julian.specs.IndianList.{indian_list}
use Rattle.cal_julian.specs.laws.IndianLaws.{indian_list-plain}
use Rattle.cal_julian.proofs.indian.IndianYearShapes.months_by_number.Goals as goal

pub returns-clause-count : goal.returns-clause-count
returns-clause-count c =
    let apart : to_z w32 (of_z w32 (to_z w32 (of_z w32 c.args.last) -ℤ to_z w32 (of_z w32 c.args.first))) ≡ c.args.last -ℤ c.args.first = omega (arith, signed_casts, c.requires.first, c.requires.last) in
    let there : to_z w32 (of_z w32 c.args.last) ≡ c.args.last = omega (arith, signed_casts, c.requires.last) in
    let number = month_number-twelve indian_list indian_list-plain.count in
    omega (arith, signed_casts, apart, c.requires.order, ap (λ (y : ℤ). month_number indian_list y 1) there, number c.args.first 1, number c.args.last 1)
