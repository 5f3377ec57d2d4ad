use Rattle.std.proofs.Common.{sym}
use Rattle.cal_base.specs.laws.PlainPlaceLaws.{spot-plain}
use Rattle.cal_julian.specs.PersianList.{persian_list}
use Rattle.cal_julian.specs.laws.PersianLaws.{persian_list-plain}
use Rattle.cal_julian.specs.PersianCorrected.{corrected_years}
use Rattle.cal_julian.proofs.persian.PersianYearShapes.ordinal_in_other_year.Goals as goal

pub returns : goal.returns
returns c =
    let years = corrected_years c.args.self.now in
    sym (spot-plain 12 (persian_list years) (persian_list-plain years) c.args._year.number c.args._other.number c.args.ordinal_month c.args._overflow c.requires.month.place)
