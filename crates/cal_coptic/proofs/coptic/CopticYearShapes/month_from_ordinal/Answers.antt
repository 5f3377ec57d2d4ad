use Rattle.std.proofs.Common.{◌≤◌, ◌∙◌, sym, arith}
use Rattle.cal_types.proofs.PlainMonthLemmas.{plain-month, plain-place, plain_month-small}
use Rattle.cal_coptic.specs.CopticList.{coptic_list}
use Rattle.cal_coptic.specs.laws.CopticLaws.{coptic_list-plain}
use Rattle.cal_coptic.proofs.coptic.CopticYearShapes.month_from_ordinal.Goals as goal

pub returns : goal.returns
returns c =
    let y = c.args._year.number in
    let place = plain-place 13 coptic_list coptic_list-plain y c.args.ordinal_month c.requires.place in
    let small : c.args.ordinal_month ≤ 13 = omega (arith, place) in
    c.new.ensures ∙ (plain_month-small c.args.ordinal_month small ∙ sym (plain-month 13 coptic_list coptic_list-plain y c.args.ordinal_month c.requires.place))
