use Rattle.std.proofs.Common.{◌≡◌, pos, ◌*ℤ◌, to_z, of_z, w32, unsigned_abs, arith}
use Rattle.cal_days.proofs.Signed.{signed}
use Rattle.cal_types.proofs.PlainMonthLemmas.{total-plain}
use Rattle.cal_julian.specs.JulianList.{julian_list}
use Rattle.cal_julian.specs.laws.JulianLaws.{julian_list-plain}
use Rattle.cal_julian.proofs.julian.JulianYearShapes.min_months_from.Goals as goal

pub returns-clause-least : goal.returns-clause-least
returns-clause-least c y first last =
    let twelve : to_z w32 (of_z w32 (pos 12 *ℤ to_z w32 (of_z w32 c.args.count))) ≡ pos 12 *ℤ c.args.count = omega (arith, signed, c.requires.count) in
    rw (twelve, total-plain 12 julian_list julian_list-plain y (unsigned_abs c.args.count)) (omega (arith, signed))
