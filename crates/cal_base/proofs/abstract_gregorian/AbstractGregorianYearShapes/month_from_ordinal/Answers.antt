use Rattle.std.proofs.Common.{◌≤◌, ◌∙◌, sym, arith}
use Rattle.cal_types.proofs.PlainMonthLemmas.{plain-month, plain-place, plain_month-small}
use Rattle.cal_base.specs.OffsetList.{offset_list, extended_year_from}
use Rattle.cal_base.specs.laws.OffsetListLaws.{offset_list-plain}
use Rattle.cal_base.proofs.abstract_gregorian.AbstractGregorianYearShapes.month_from_ordinal.Goals as goal

pub returns : goal.returns
returns g c =
    let offset = g.Y.GregorianYears.offset c.args.self.now.0 in
    let y = extended_year_from offset c.args._year in
    let place = plain-place 12 (offset_list offset) (offset_list-plain offset) y c.args.ordinal_month c.requires.place in
    let small : c.args.ordinal_month ≤ 13 = omega (arith, place) in
    c.new.ensures ∙ (plain_month-small c.args.ordinal_month small ∙ sym (plain-month 12 (offset_list offset) (offset_list-plain offset) y c.args.ordinal_month c.requires.place))
