use Rattle.std.proofs.Common.{◌<◌, arith}
use Rattle.cal_types.specs.CalendarList.{year_length}
use Rattle.cal_coptic.specs.CopticList.{coptic_list}
use Rattle.cal_coptic.specs.laws.CopticLaws.{day_found, year_length-most}
use Rattle.cal_coptic.specs.EthiopianList.{coptic_offset}
use Rattle.cal_coptic.specs.laws.EthiopianLaws.{year_days-ethiopian, day_of_year-ethiopian}
use Rattle.cal_coptic.proofs.ethiopian.EthiopianYears.month_and_day.Goals as goal

pub month_and_day-requires : goal.month_and_day-requires
month_and_day-requires c =
    let number = c.args._year.number in
    omega (arith, c.requires.within, year_days-ethiopian (coptic_offset c.args.self.now.era_style) number, year_length-most number)

pub returns : goal.returns
returns c =
    let number = c.args._year.number in
    let offset = coptic_offset c.args.self.now.era_style in
    let found = c.month_and_day.ensures in
    let within : c.args.day_of_year < year_length coptic_list number = omega (arith, c.requires.within, year_days-ethiopian offset number) in
    day_of_year-ethiopian offset number c.args.day_of_year _ _ (day_found number c.args.day_of_year _ _ within found.month found.day)
