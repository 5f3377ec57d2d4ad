use Rattle.std.proofs.Common.{◌∙◌, sym}
use Rattle.cal_days.specs.Gregorian.{gregorian_leap}
use Rattle.cal_types.proofs.PlainMonthLemmas.{plain-place}
use Rattle.cal_base.specs.OffsetList.{offset_list, extended_year_from}
use Rattle.cal_base.specs.laws.OffsetListLaws.{offset_list-plain}
use Rattle.cal_base.proofs.OffsetYears.{month_length-offset}
use Rattle.cal_base.proofs.abstract_gregorian.AbstractGregorianYearShapes.days_in_provided_month.Goals as goal

pub days_in_iso_month-requires : goal.days_in_iso_month-requires
days_in_iso_month-requires g c =
    let offset = g.Y.GregorianYears.offset c.args.self.now.0 in
    plain-place 12 (offset_list offset) (offset_list-plain offset) (extended_year_from offset c.args.year) c.args.month c.requires.place

pub returns : goal.returns
returns g c =
    let offset = g.Y.GregorianYears.offset c.args.self.now.0 in
    c.days_in_iso_month.ensures ∙ sym (month_length-offset offset c.args.year (gregorian_leap c.args.year.number) c.args.month (λ h. h, λ h. h))
