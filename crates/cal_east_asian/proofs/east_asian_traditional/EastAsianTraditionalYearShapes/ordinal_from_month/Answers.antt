use Rattle.std.proofs.Common.{◌∙◌, ℕ, ap, sym}
use Rattle.cal_types.specs.MonthParts.{month_parts}
use Rattle.cal_east_asian.specs.EastAsianPlaces.{east_asian_place}
use Rattle.cal_east_asian.specs.laws.EastAsianListLaws.{ordinal_month-east_asian}
use Rattle.cal_east_asian.specs.laws.EastAsianGivenLaws.{leap-given}
use Rattle.cal_east_asian.proofs.east_asian_traditional.EastAsianTraditionalYearShapes.ordinal_from_month.Goals as goal

pub returns : goal.returns
returns g c =
    let year_of = g.R.Rules.year_of c.args.self.now.0 in
    let year = c.args.year in
    let m = month_parts c.args.month in
    c.place_of_month.ensures
    ∙ sym (ordinal_month-east_asian year_of year.related_iso m c.args.overflow ∙ ap (λ (p : ℕ). east_asian_place p m c.args.overflow) (leap-given year_of year c.requires))
