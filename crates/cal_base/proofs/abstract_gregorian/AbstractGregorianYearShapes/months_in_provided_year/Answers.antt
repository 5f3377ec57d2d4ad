use Rattle.std.proofs.Common.{sym}
use Rattle.cal_base.specs.OffsetList.{extended_year_from}
use Rattle.cal_base.specs.laws.OffsetListLaws.{offset_list-plain}
use Rattle.cal_base.proofs.abstract_gregorian.AbstractGregorianYearShapes.months_in_provided_year.Goals as goal

pub returns : goal.returns
returns g c =
    let offset = g.Y.GregorianYears.offset c.args.self.now.0 in
    sym ((offset_list-plain offset).count (extended_year_from offset c.args._year))
