use Rattle.std.proofs.Common.{◌∙◌, sym}
use Rattle.cal_types.specs.MonthParts.{month_parts}
use Rattle.cal_base.specs.laws.PlainPlaceLaws.{ordinal_month-plain}
use Rattle.cal_hijri.specs.HijriList.{hijri_list}
use Rattle.cal_hijri.specs.laws.HijriShapes.{hijri_list-plain}
use Rattle.cal_hijri.proofs.hijri.HijriYearShapes.ordinal_from_month.Goals as goal

pub returns : goal.returns
returns g c =
    c.plain_ordinal.ensures
    ∙ sym (ordinal_month-plain 12 (hijri_list (g.R.Rules.year_of c.args.self.now.0)) (hijri_list-plain (g.R.Rules.year_of c.args.self.now.0)) c.args._year.extended_year (month_parts c.args.month) c.args._overflow)
