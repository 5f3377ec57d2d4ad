use Rattle.std.proofs.Common.{◌∙◌, ℕ, ap, sym, arith}
use Rattle.cal_east_asian.specs.EastAsianMonths.{month_in_place}
use Rattle.cal_east_asian.specs.laws.EastAsianListLaws.{count-small, month_at-east_asian}
use Rattle.cal_east_asian.specs.laws.EastAsianGivenLaws.{leap-given}
use Rattle.cal_east_asian.proofs.east_asian_traditional.EastAsianTraditionalYearShapes.month_from_ordinal.Goals as goal

pub month_in_place-requires : goal.month_in_place-requires
month_in_place-requires g c = (c.requires.place.0, omega (arith, c.requires.place.1, count-small (g.R.Rules.year_of c.args.self.now.0) c.args.year.related_iso))

pub returns : goal.returns
returns g c =
    let year_of = g.R.Rules.year_of c.args.self.now.0 in
    let year = c.args.year in
    c.month_in_place.ensures
    ∙ sym (month_at-east_asian year_of year.related_iso c.args.ordinal_month c.requires.place ∙ ap (λ (p : ℕ). month_in_place p c.args.ordinal_month) (leap-given year_of year c.requires.year))
