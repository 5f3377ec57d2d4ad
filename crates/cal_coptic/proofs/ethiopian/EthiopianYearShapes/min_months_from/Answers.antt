use Rattle.std.proofs.Common.{◌≡◌, pos, ◌*ℤ◌, to_z, of_z, w32, unsigned_abs, arith}
use Rattle.cal_days.proofs.Signed.{signed}
use Rattle.cal_types.proofs.PlainMonthLemmas.{total-plain}
use Rattle.cal_coptic.specs.EthiopianList.{coptic_offset, ethiopian_list}
use Rattle.cal_coptic.specs.laws.EthiopianLaws.{ethiopian_list-plain}
use Rattle.cal_coptic.proofs.ethiopian.EthiopianYearShapes.min_months_from.Goals as goal

pub returns-clause-least : goal.returns-clause-least
returns-clause-least c y first last =
    let offset = coptic_offset c.args.self.now.era_style in
    let thirteen : to_z w32 (of_z w32 (pos 13 *ℤ to_z w32 (of_z w32 c.args.count))) ≡ pos 13 *ℤ c.args.count = omega (arith, signed, c.requires.count) in
    rw (thirteen, total-plain 13 (ethiopian_list offset) (ethiopian_list-plain offset) y (unsigned_abs c.args.count)) (omega (arith, signed))
