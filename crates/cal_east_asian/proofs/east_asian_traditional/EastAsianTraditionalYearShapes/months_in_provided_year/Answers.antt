use Rattle.std.proofs.Common.{◌∙◌, ap, sym}
use Rattle.cal_east_asian.specs.EastAsianYear.{months_of_year}
use Rattle.cal_east_asian.specs.laws.EastAsianListLaws.{month_count-east_asian}
use Rattle.cal_east_asian.specs.laws.EastAsianGivenLaws.{leap-given}
use Rattle.cal_east_asian.proofs.east_asian_traditional.EastAsianTraditionalYearShapes.months_in_provided_year.Goals as goal

pub returns : goal.returns
returns g c =
    let year_of = g.R.Rules.year_of c.args.self.now.0 in
    let year = c.args.year in
    c.months_in_year.ensures.value ∙ sym (month_count-east_asian year_of year.related_iso ∙ ap months_of_year (leap-given year_of year c.requires))
