use Rattle.std.proofs.Common.{◌≡◌, ◌∙◌, ◌-ℤ◌, ◌+ℤ◌, ◌+◌, ◌-◌, ℕ, ℤ, pos, neg_ℤ, sym, ap, subst, arith}
use Rattle.cal_days.specs.Day.{IsBetween}
use Rattle.cal_arith.specs.Given.{IsGiven}
use Rattle.cal_base.proofs.CountedDayLemmas.{handed, sum}
use Rattle.cal_types.specs.CalendarList.{days_before, start_of_year}
use Rattle.cal_hijri.specs.HijriList.{hijri_list, hijri_years, Joins, Numbered}
use Rattle.cal_hijri.specs.HijriMonths.{prior_days}
use Rattle.cal_hijri.specs.laws.HijriShapes.{hijri_list-plain, days_before-hijri}
use Rattle.cal_types.proofs.PlainMonthLemmas.{plain-place}
use Rattle.cal_hijri.specs.laws.GivenYears.{long-given, start-given}
use Rattle.cal_hijri.specs.declared.hijri_year.HijriYear.{HijriYear}
use Rattle.cal_hijri.proofs.Finding.{first_day-small}
use Rattle.cal_hijri.proofs.hijri.HijriYearShapes.to_rata_die_inner.Goals as goal

pub days_before_month-requires : goal.days_before_month-requires
days_before_month-requires g c =
    let year_of = g.R.Rules.year_of c.args.self.now.0 in
    let place = plain-place 12 (hijri_list year_of) (hijri_list-plain year_of) c.args.year.extended_year c.args.month c.requires.date.place in
    (place.0, omega (arith, place.1))

small : (year_of : ℤ → HijriYear) → Numbered year_of → Joins year_of → (y : HijriYear) → IsGiven (hijri_years year_of) y → IsBetween (neg_ℤ (pos 4000000000)) (pos 4000000000) y.first_day
small year_of numbered joins y given = first_day-small year_of numbered joins y y.extended_year (sym given.same) given.range

pub counted_day-requires-clause-first : goal.counted_day-requires-clause-first
counted_day-requires-clause-first g c =
    let s = c.args.self.now.0 in
    let first = small (g.R.Rules.year_of s) (g.met.R.Rules.numbered s) (g.met.R.Rules.joins s) c.args.year c.requires.year in
    subst (IsBetween (neg_ℤ (pos 4000000000)) (pos 4000000000)) (sym (handed _ first)) first

pub returns : goal.returns
returns g c =
    let s = c.args.self.now.0 in
    let year_of = g.R.Rules.year_of s in
    let year = c.args.year in
    let before : days_before (hijri_list year_of) year.extended_year c.args.month ≡ c.days_before_month.result =
    days_before-hijri year_of year.extended_year c.args.month ∙ (ap (λ (n : ℕ). prior_days n c.args.month) (long-given year_of year c.requires.year) ∙ sym c.days_before_month.ensures.value) in
    let first = handed year.first_day (small year_of (g.met.R.Rules.numbered s) (g.met.R.Rules.joins s) year c.requires.year) in
    let number = c.counted_day.ensures ∙ (ap (λ (x : ℤ). x +ℤ pos c.days_before_month.result +ℤ pos c.args.day -ℤ pos 1) first ∙ ap (λ (n : ℕ). year.first_day +ℤ pos n +ℤ pos c.args.day -ℤ pos 1) (sym before)) in
    sum year.first_day c.counted_day.result (start_of_year (hijri_list year_of) year.extended_year) (days_before (hijri_list year_of) year.extended_year c.args.month) c.args.day (start-given year_of (g.met.R.Rules.joins s) year c.requires.year) c.requires.date.day.0 number
