use Rattle.std.proofs.Common.{sym}
use Rattle.cal_base.specs.laws.PlainPlaceLaws.{spot-plain}
use Rattle.cal_base.specs.OffsetList.{offset_list, extended_year_from}
use Rattle.cal_base.specs.laws.OffsetListLaws.{offset_list-plain}
use Rattle.cal_base.proofs.abstract_gregorian.AbstractGregorianYearShapes.ordinal_in_other_year.Goals as goal

pub returns : goal.returns
returns g c =
    let offset = g.Y.GregorianYears.offset c.args.self.now.0 in
    sym (spot-plain 12 (offset_list offset) (offset_list-plain offset) (extended_year_from offset c.args._year) (extended_year_from offset c.args._other) c.args.ordinal_month c.args._overflow c.requires.month.place)
