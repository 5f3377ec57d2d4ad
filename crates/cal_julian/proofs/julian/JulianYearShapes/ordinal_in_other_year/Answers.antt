use Rattle.std.proofs.Common.{sym}
use Rattle.cal_base.specs.laws.PlainPlaceLaws.{spot-plain}
use Rattle.cal_julian.specs.JulianList.{julian_list}
use Rattle.cal_julian.specs.laws.JulianLaws.{julian_list-plain}
use Rattle.cal_julian.proofs.julian.JulianYearShapes.ordinal_in_other_year.Goals as goal

pub returns : goal.returns
returns c = sym (spot-plain 12 julian_list julian_list-plain c.args._year.number c.args._other.number c.args.ordinal_month c.args._overflow c.requires.month.place)
