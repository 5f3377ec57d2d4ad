use Rattle.std.proofs.Common.{◌∙◌, sym}
use Rattle.cal_types.specs.MonthParts.{month_parts}
use Rattle.cal_base.specs.laws.PlainPlaceLaws.{ordinal_month-plain}
use Rattle.cal_julian.specs.IndianList.{indian_list}
use Rattle.cal_julian.specs.laws.IndianLaws.{indian_list-plain}
use Rattle.cal_julian.proofs.indian.IndianYearShapes.ordinal_from_month.Goals as goal

pub returns : goal.returns
returns c =
    c.plain_ordinal.ensures
    ∙ sym (ordinal_month-plain 12 indian_list indian_list-plain c.args._year.number (month_parts c.args.month) c.args._overflow)
