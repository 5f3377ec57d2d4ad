use Rattle.std.proofs.Common.{◌∙◌, ℕ, ap, sym}
use Rattle.cal_types.proofs.PlainMonthLemmas.{plain-place}
use Rattle.cal_hijri.specs.HijriList.{hijri_list}
use Rattle.cal_hijri.specs.HijriMonths.{month_days}
use Rattle.cal_hijri.specs.laws.HijriShapes.{hijri_list-plain, month_length-hijri}
use Rattle.cal_hijri.specs.laws.GivenYears.{long-given}
use Rattle.cal_hijri.proofs.hijri.HijriYearShapes.days_in_provided_month.Goals as goal

pub days_in_month-requires : goal.days_in_month-requires
days_in_month-requires g c =
    let year_of = g.R.Rules.year_of c.args.self.now.0 in
    plain-place 12 (hijri_list year_of) (hijri_list-plain year_of) c.args.year.extended_year c.args.month c.requires.place

pub returns : goal.returns
returns g c =
    let year_of = g.R.Rules.year_of c.args.self.now.0 in
    let year = c.args.year in
    let long = long-given year_of year c.requires.year in
    ◌∙◌ {b = month_days year.long_months c.args.month} c.days_in_month.ensures.value (sym (month_length-hijri year_of year.extended_year c.args.month ∙ ap (λ (n : ℕ). month_days n c.args.month) long))
