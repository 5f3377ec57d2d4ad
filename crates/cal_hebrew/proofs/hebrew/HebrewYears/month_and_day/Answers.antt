use Rattle.std.proofs.Common.{arith}
use Rattle.cal_hebrew.specs.laws.HebrewMonths.{year_length-hebrew}
use Rattle.cal_hebrew.proofs.HebrewGiven.{given-length, on-place, one_of_six}
use Rattle.cal_hebrew.proofs.hebrew.HebrewYears.month_and_day.Goals as goal

pub month_and_day-requires-clause-length : goal.month_and_day-requires-clause-length
month_and_day-requires-clause-length c = one_of_six c.args.year.extended_year c.args.year.length (given-length c.args.year c.requires.year)

pub month_and_day-requires-clause-within : goal.month_and_day-requires-clause-within
month_and_day-requires-clause-within c = omega (arith, c.requires.within, year_length-hebrew c.args.year.extended_year, given-length c.args.year c.requires.year)

pub returns : goal.returns
returns c =
    let found = c.month_and_day.ensures in
    on-place c.args.year.extended_year c.args.year.length c.args.day_of_year c.month_and_day.result.0 c.month_and_day.result.1 (given-length c.args.year c.requires.year) found.place found.before found.day
