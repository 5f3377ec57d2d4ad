use Rattle.std.proofs.Common.{◌∙◌, ℕ, ap, sym, arith}
use Rattle.cal_east_asian.specs.EastAsianPlaces.{leap_status_of_place}
use Rattle.cal_east_asian.specs.laws.EastAsianListLaws.{count-small}
use Rattle.cal_east_asian.specs.laws.EastAsianGivenLaws.{leap-given}
use Rattle.cal_east_asian.proofs.east_asian_traditional.EastAsianTraditionalNamedYears.shown_month.Goals as goal

pub leap_status-requires : goal.leap_status-requires
leap_status-requires g c = omega (arith, c.requires.place.place.1, count-small (g.R.Rules.year_of c.args.self.now.0) c.args.year.related_iso)

pub returns-clause-status : goal.returns-clause-status
returns-clause-status g c =
    c.leap_status.ensures ∙ ap (λ (p : ℕ). leap_status_of_place p c.args.ordinal_month) (sym (leap-given (g.R.Rules.year_of c.args.self.now.0) c.args.year c.requires.year.given))
