use Rattle.std.proofs.Common.{◌∙◌, sym}
use Rattle.cal_types.specs.MonthParts.{month_parts}
use Rattle.cal_base.specs.laws.PlainPlaceLaws.{ordinal_month-plain}
use Rattle.cal_julian.specs.JulianList.{julian_list}
use Rattle.cal_julian.specs.laws.JulianLaws.{julian_list-plain}
use Rattle.cal_julian.proofs.julian.JulianYearShapes.ordinal_from_month.Goals as goal

pub returns : goal.returns
returns c =
    c.plain_ordinal.ensures
    ∙ sym (ordinal_month-plain 12 julian_list julian_list-plain c.args._year.number (month_parts c.args.month) c.args._overflow)
