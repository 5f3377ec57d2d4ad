use Rattle.std.proofs.Common.{◌∙◌, ◌-ℤ◌, sym}
use Rattle.cal_types.specs.MonthParts.{month_parts}
use Rattle.cal_base.specs.laws.PlainPlaceLaws.{ordinal_month-plain}
use Rattle.cal_coptic.specs.EthiopianList.{coptic_offset, ethiopian_list}
use Rattle.cal_coptic.specs.laws.EthiopianLaws.{ethiopian_list-plain}
use Rattle.cal_coptic.proofs.ethiopian.EthiopianYearShapes.ordinal_from_month.Goals as goal

pub returns : goal.returns
returns c =
    let offset = coptic_offset c.args.self.now.era_style in
    c.plain_ordinal.ensures
    ∙ sym (ordinal_month-plain 13 (ethiopian_list offset) (ethiopian_list-plain offset) (c.args._year.number -ℤ offset) (month_parts c.args.month) c.args._overflow)
