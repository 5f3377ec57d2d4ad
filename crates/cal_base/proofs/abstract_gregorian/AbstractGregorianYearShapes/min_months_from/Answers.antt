use Rattle.std.proofs.Common.{arith, unsigned_abs}
use Rattle.cal_days.proofs.Signed.{signed}
use Rattle.cal_types.proofs.PlainMonthLemmas.{total-plain}
use Rattle.cal_base.specs.OffsetList.{offset_list}
use Rattle.cal_base.specs.laws.OffsetListLaws.{offset_list-plain}
use Rattle.cal_base.proofs.abstract_gregorian.AbstractGregorianYearShapes.min_months_from.Goals as goal

pub returns-clause-least : goal.returns-clause-least
returns-clause-least g c y first last =
    let offset = g.Y.GregorianYears.offset c.args.self.now.0 in
    omega (arith, signed, total-plain 12 (offset_list offset) (offset_list-plain offset) y (unsigned_abs c.args.count))
