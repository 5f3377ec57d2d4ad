use Rattle.std.proofs.Common.{◌≤◌, ◌∙◌, ◌-ℤ◌, sym, arith}
use Rattle.cal_types.proofs.PlainMonthLemmas.{plain-month, plain-place, plain_month-small}
use Rattle.cal_coptic.specs.EthiopianList.{coptic_offset, ethiopian_list}
use Rattle.cal_coptic.specs.laws.EthiopianLaws.{ethiopian_list-plain}
use Rattle.cal_coptic.proofs.ethiopian.EthiopianYearShapes.month_from_ordinal.Goals as goal

pub returns : goal.returns
returns c =
    let offset = coptic_offset c.args.self.now.era_style in
    let y = c.args._year.number -ℤ offset in
    let place = plain-place 13 (ethiopian_list offset) (ethiopian_list-plain offset) y c.args.ordinal_month c.requires.place in
    let small : c.args.ordinal_month ≤ 13 = omega (arith, place) in
    c.new.ensures ∙ (plain_month-small c.args.ordinal_month small ∙ sym (plain-month 13 (ethiopian_list offset) (ethiopian_list-plain offset) y c.args.ordinal_month c.requires.place))
