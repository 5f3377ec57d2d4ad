use Rattle.std.proofs.Common.{◌∙◌, ◌-ℤ◌, ℤ, sym, ap}
use Rattle.cal_types.specs.CalendarList.{month_length}
use Rattle.cal_types.proofs.PlainMonthLemmas.{plain-place}
use Rattle.cal_types.proofs.RenumberedLemmas.{month_length-renumbered}
use Rattle.cal_coptic.specs.CopticList.{coptic_list}
use Rattle.cal_types.proofs.CountedDateLemmas.{shifted_year}
use Rattle.cal_coptic.specs.EthiopianList.{coptic_offset, ethiopian_list}
use Rattle.cal_coptic.specs.laws.EthiopianLaws.{ethiopian_list-plain}
use Rattle.cal_coptic.proofs.ethiopian.EthiopianYearShapes.days_in_provided_month.Goals as goal

pub days_in_month-requires : goal.days_in_month-requires
days_in_month-requires c =
    let offset = coptic_offset c.args.self.now.era_style in
    plain-place 13 (ethiopian_list offset) (ethiopian_list-plain offset) (c.args.year.number -ℤ offset) c.args.month c.requires.place

pub returns : goal.returns
returns c =
    let offset = coptic_offset c.args.self.now.era_style in
    let number = c.args.year.number in
    c.days_in_month.ensures
    ∙ sym (month_length-renumbered offset coptic_list (number -ℤ offset) c.args.month ∙ ap (λ (y : ℤ). month_length coptic_list y c.args.month) (shifted_year offset number))
