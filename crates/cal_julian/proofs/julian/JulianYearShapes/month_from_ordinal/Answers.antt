use Rattle.std.proofs.Common.{◌≤◌, ◌∙◌, sym, arith}
use Rattle.cal_types.proofs.PlainMonthLemmas.{plain-month, plain-place, plain_month-small}
use Rattle.cal_julian.specs.JulianList.{julian_list}
use Rattle.cal_julian.specs.laws.JulianLaws.{julian_list-plain}
use Rattle.cal_julian.proofs.julian.JulianYearShapes.month_from_ordinal.Goals as goal

pub returns : goal.returns
returns c =
    let y = c.args._year.number in
    let place = plain-place 12 julian_list julian_list-plain y c.args.ordinal_month c.requires.place in
    let small : c.args.ordinal_month ≤ 13 = omega (arith, place) in
    c.new.ensures ∙ (plain_month-small c.args.ordinal_month small ∙ sym (plain-month 12 julian_list julian_list-plain y c.args.ordinal_month c.requires.place))
