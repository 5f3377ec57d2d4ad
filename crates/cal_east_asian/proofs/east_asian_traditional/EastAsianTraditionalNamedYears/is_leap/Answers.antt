use Rattle.std.proofs.Common.{◌≡◌, ◌∙◌, ◌↔◌, ℕ, ap, IsTrue, not, arith}
use Rattle.std.specs.Prelude.{nat_eq}
use Rattle.std.proofs.lemmas.Bool.Decides.{nat_tests}
use Rattle.cal_types.specs.CalendarList.{month_count}
use Rattle.cal_east_asian.specs.EastAsianYear.{months_of_year}
use Rattle.cal_east_asian.specs.EastAsianList.{east_asian_list}
use Rattle.cal_east_asian.specs.laws.EastAsianListLaws.{month_count-east_asian}
use Rattle.cal_east_asian.specs.laws.EastAsianGivenLaws.{leap-given}
use Rattle.cal_east_asian.proofs.east_asian_traditional.EastAsianTraditionalNamedYears.is_leap.Goals as goal

thirteen : (p : ℕ) → IsTrue (not (nat_eq p 0)) ↔ IsTrue (nat_eq (months_of_year p) 13)
thirteen p = (λ h. grind (arith, nat_tests), λ h. grind (arith, nat_tests))

pub returns : goal.returns
returns g c =
    let year_of = g.R.Rules.year_of c.args.self.now.0 in
    let year = c.args.year in
    let count : month_count (east_asian_list year_of) year.related_iso ≡ months_of_year year.leap_month = month_count-east_asian year_of year.related_iso ∙ ap months_of_year (leap-given year_of year c.requires.given) in
    rw count (thirteen year.leap_month)
