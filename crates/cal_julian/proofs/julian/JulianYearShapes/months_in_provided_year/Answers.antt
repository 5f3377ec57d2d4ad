use Rattle.std.proofs.Common.{sym}
use Rattle.cal_julian.specs.laws.JulianLaws.{julian_list-plain}
use Rattle.cal_julian.proofs.julian.JulianYearShapes.months_in_provided_year.Goals as goal

pub returns : goal.returns
returns c = sym (julian_list-plain.count c.args._year.number)
