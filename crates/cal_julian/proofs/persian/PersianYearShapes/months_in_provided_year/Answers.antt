use Rattle.std.proofs.Common.{sym}
use Rattle.cal_julian.specs.laws.PersianLaws.{persian_list-plain}
use Rattle.cal_julian.specs.PersianCorrected.{corrected_years}
use Rattle.cal_julian.proofs.persian.PersianYearShapes.months_in_provided_year.Goals as goal

pub returns : goal.returns
returns c = sym ((persian_list-plain (corrected_years c.args.self.now)).count c.args._year.number)
