use Rattle.std.proofs.Common.{◌∙◌, sym}
use Rattle.cal_types.specs.MonthParts.{month_parts}
use Rattle.cal_base.specs.laws.PlainPlaceLaws.{ordinal_month-plain}
use Rattle.cal_base.specs.OffsetList.{offset_list, extended_year_from}
use Rattle.cal_base.specs.laws.OffsetListLaws.{offset_list-plain}
use Rattle.cal_base.proofs.abstract_gregorian.AbstractGregorianYearShapes.ordinal_from_month.Goals as goal

pub returns : goal.returns
returns g c =
    let offset = g.Y.GregorianYears.offset c.args.self.now.0 in
    c.plain_ordinal.ensures
    ∙ sym (ordinal_month-plain 12 (offset_list offset) (offset_list-plain offset) (extended_year_from offset c.args._year) (month_parts c.args.month) c.args._overflow)
