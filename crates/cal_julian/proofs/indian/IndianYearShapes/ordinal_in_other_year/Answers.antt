use Rattle.std.proofs.Common.{sym}
use Rattle.cal_base.specs.laws.PlainPlaceLaws.{spot-plain}
use Rattle.cal_julian.specs.IndianList.{indian_list}
use Rattle.cal_julian.specs.laws.IndianLaws.{indian_list-plain}
use Rattle.cal_julian.proofs.indian.IndianYearShapes.ordinal_in_other_year.Goals as goal

pub returns : goal.returns
returns c = sym (spot-plain 12 indian_list indian_list-plain c.args._year.number c.args._other.number c.args.ordinal_month c.args._overflow c.requires.month.place)
