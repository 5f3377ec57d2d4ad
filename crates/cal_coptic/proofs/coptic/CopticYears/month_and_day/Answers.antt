use Rattle.std.proofs.Common.{arith}
use Rattle.cal_coptic.specs.laws.CopticLaws.{day_found, year_length-most}
use Rattle.cal_coptic.proofs.coptic.CopticYears.month_and_day.Goals as goal

pub month_and_day-requires : goal.month_and_day-requires
month_and_day-requires c = omega (arith, c.requires.within, year_length-most c.args._year.number)

pub returns : goal.returns
returns c =
    let found = c.month_and_day.ensures in
    day_found c.args._year.number c.args.day_of_year _ _ c.requires.within found.month found.day
