use Rattle.std.proofs.Common.{◌-ℤ◌, sym}
use Rattle.cal_coptic.specs.EthiopianList.{coptic_offset}
use Rattle.cal_coptic.specs.laws.EthiopianLaws.{ethiopian_list-plain}
use Rattle.cal_coptic.proofs.ethiopian.EthiopianYearShapes.months_in_provided_year.Goals as goal

pub returns : goal.returns
returns c =
    let offset = coptic_offset c.args.self.now.era_style in
    sym ((ethiopian_list-plain offset).count (c.args._year.number -ℤ offset))
