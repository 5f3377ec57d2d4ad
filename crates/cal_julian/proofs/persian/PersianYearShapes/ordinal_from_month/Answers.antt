use Rattle.std.proofs.Common.{◌∙◌, sym}
use Rattle.cal_types.specs.MonthParts.{month_parts}
use Rattle.cal_base.specs.laws.PlainPlaceLaws.{ordinal_month-plain}
use Rattle.cal_julian.specs.PersianList.{persian_list}
use Rattle.cal_julian.specs.laws.PersianLaws.{persian_list-plain}
use Rattle.cal_julian.specs.PersianCorrected.{corrected_years}
use Rattle.cal_julian.proofs.persian.PersianYearShapes.ordinal_from_month.Goals as goal

pub returns : goal.returns
returns c =
    c.plain_ordinal.ensures
    ∙ sym (ordinal_month-plain 12 (persian_list (corrected_years c.args.self.now)) (persian_list-plain (corrected_years c.args.self.now)) c.args._year.number (month_parts c.args.month) c.args._overflow)
