use Rattle.std.proofs.Common.{◌∙◌, sym}
use Rattle.cal_types.specs.MonthParts.{month_parts}
use Rattle.cal_base.specs.laws.PlainPlaceLaws.{ordinal_month-plain}
use Rattle.cal_coptic.specs.CopticList.{coptic_list}
use Rattle.cal_coptic.specs.laws.CopticLaws.{coptic_list-plain}
use Rattle.cal_coptic.proofs.coptic.CopticYearShapes.ordinal_from_month.Goals as goal

pub returns : goal.returns
returns c =
    c.plain_ordinal.ensures
    ∙ sym (ordinal_month-plain 13 coptic_list coptic_list-plain c.args._year.number (month_parts c.args.month) c.args._overflow)
