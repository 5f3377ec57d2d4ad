use Rattle.std.proofs.Common.{◌≤◌, ◌∙◌, sym, arith}
use Rattle.cal_types.proofs.PlainMonthLemmas.{plain-month, plain-place, plain_month-small}
use Rattle.cal_hijri.specs.HijriList.{hijri_list}
use Rattle.cal_hijri.specs.laws.HijriShapes.{hijri_list-plain}
use Rattle.cal_hijri.proofs.hijri.HijriYearShapes.month_from_ordinal.Goals as goal

pub returns : goal.returns
returns g c =
    let y = c.args._year.extended_year in
    let place = plain-place 12 (hijri_list (g.R.Rules.year_of c.args.self.now.0)) (hijri_list-plain (g.R.Rules.year_of c.args.self.now.0)) y c.args.ordinal_month c.requires.place in
    let small : c.args.ordinal_month ≤ 13 = omega (arith, place) in
    c.new.ensures ∙ (plain_month-small c.args.ordinal_month small ∙ sym (plain-month 12 (hijri_list (g.R.Rules.year_of c.args.self.now.0)) (hijri_list-plain (g.R.Rules.year_of c.args.self.now.0)) y c.args.ordinal_month c.requires.place))
