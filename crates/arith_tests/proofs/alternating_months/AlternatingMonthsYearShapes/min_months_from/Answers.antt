use Rattle.std.proofs.Common.{◌≡◌, pos, ◌*ℤ◌, to_z, of_z, w32, unsigned_abs, arith}
use Rattle.cal_days.proofs.Signed.{signed}
use Rattle.arith_tests.specs.laws.AlternatingMonthLaws.{total-alternating}
use Rattle.arith_tests.proofs.alternating_months.AlternatingMonthsYearShapes.min_months_from.Goals as goal

pub returns-clause-least : goal.returns-clause-least
returns-clause-least c = λ y low high.
    let same : to_z w32 (of_z w32 (pos 12 *ℤ to_z w32 (of_z w32 c.args.years))) ≡ pos 12 *ℤ c.args.years = omega (arith, signed, c.requires.count) in
    omega (arith, signed, same, total-alternating y (unsigned_abs c.args.years))
