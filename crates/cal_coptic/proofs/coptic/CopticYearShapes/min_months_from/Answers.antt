use Rattle.std.proofs.Common.{◌≡◌, pos, ◌*ℤ◌, to_z, of_z, w32, unsigned_abs, arith}
use Rattle.cal_days.proofs.Signed.{signed}
use Rattle.cal_types.proofs.PlainMonthLemmas.{total-plain}
use Rattle.cal_coptic.specs.CopticList.{coptic_list}
use Rattle.cal_coptic.specs.laws.CopticLaws.{coptic_list-plain}
use Rattle.cal_coptic.proofs.coptic.CopticYearShapes.min_months_from.Goals as goal

pub returns-clause-least : goal.returns-clause-least
returns-clause-least c y first last =
    let thirteen : to_z w32 (of_z w32 (pos 13 *ℤ to_z w32 (of_z w32 c.args.count))) ≡ pos 13 *ℤ c.args.count = omega (arith, signed, c.requires.count) in
    rw (thirteen, total-plain 13 coptic_list coptic_list-plain y (unsigned_abs c.args.count)) (omega (arith, signed))
