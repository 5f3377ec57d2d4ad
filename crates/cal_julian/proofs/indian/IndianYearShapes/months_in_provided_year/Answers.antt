use Rattle.std.proofs.Common.{sym}
use Rattle.cal_julian.specs.laws.IndianLaws.{indian_list-plain}
use Rattle.cal_julian.proofs.indian.IndianYearShapes.months_in_provided_year.Goals as goal

pub returns : goal.returns
returns c = sym (indian_list-plain.count c.args._year.number)
