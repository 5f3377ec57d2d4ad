use Rattle.std.proofs.Common.{◌∙◌, ℕ, ap, sym, arith}
use Rattle.cal_east_asian.specs.EastAsianPlaces.{month_days}
use Rattle.cal_east_asian.specs.laws.EastAsianListLaws.{count-small, month_length-east_asian}
use Rattle.cal_east_asian.specs.laws.EastAsianGivenLaws.{long-given}
use Rattle.cal_east_asian.proofs.east_asian_traditional.EastAsianTraditionalYearShapes.days_in_provided_month.Goals as goal

pub days_in_month-requires : goal.days_in_month-requires
days_in_month-requires g c = (c.requires.place.0, omega (arith, c.requires.place.1, count-small (g.R.Rules.year_of c.args.self.now.0) c.args.year.related_iso))

pub returns : goal.returns
returns g c =
    let year_of = g.R.Rules.year_of c.args.self.now.0 in
    let year = c.args.year in
    c.days_in_month.ensures.value
    ∙ sym (month_length-east_asian year_of year.related_iso c.args.month c.requires.place ∙ ap (λ (n : ℕ). month_days n c.args.month) (long-given year_of year c.requires.year))
