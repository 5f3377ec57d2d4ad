use Rattle.std.proofs.Common.{sym}
use Rattle.cal_hijri.specs.laws.HijriShapes.{hijri_list-plain}
use Rattle.cal_hijri.proofs.hijri.HijriYearShapes.months_in_provided_year.Goals as goal

pub returns : goal.returns
returns g c = sym ((hijri_list-plain (g.R.Rules.year_of c.args.self.now.0)).count c.args._year.extended_year)
