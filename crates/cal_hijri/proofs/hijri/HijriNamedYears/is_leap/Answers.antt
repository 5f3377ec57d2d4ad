use Rattle.std.proofs.Common.{◌≡◌, ◌∙◌, ◌↔◌, ◌==◌, ℕ, IsTrue, sym, subst}
use Rattle.cal_types.specs.CalendarList.{year_length}
use Rattle.cal_hijri.specs.HijriList.{hijri_list}
use Rattle.cal_hijri.specs.HijriMonths.{prior_days}
use Rattle.cal_hijri.specs.laws.GivenYears.{length-given}
use Rattle.cal_hijri.proofs.hijri.HijriNamedYears.is_leap.Goals as goal

pub returns : goal.returns
returns g c =
    let year_of = g.R.Rules.year_of c.args.self.now.0 in
    let days = c.days_before_month.result in
    let length : days ≡ year_length (hijri_list year_of) c.args.year.extended_year = ◌∙◌ {b = prior_days c.args.year.long_months 13} c.days_before_month.ensures.value (sym (length-given year_of c.args.year c.requires.given)) in
    subst (λ (n : ℕ). IsTrue (days == 355) ↔ IsTrue (n == 355)) length (λ h. h, λ h. h)
