use Rattle.std.proofs.Common.{◌≡◌, ◌∙◌, ◌+◌, ◌-◌, ◌-ℤ◌, ◌+ℤ◌, ℕ, ℤ, pos, neg_ℤ, sym, ap, subst, arith}
use Rattle.cal_days.specs.Day.{IsBetween}
use Rattle.cal_arith.specs.Given.{IsGiven}
use Rattle.cal_base.proofs.CountedDayLemmas.{handed, sum}
use Rattle.cal_types.specs.CalendarList.{HasPlace, days_before, start_of_year}
use Rattle.cal_east_asian.specs.EastAsianYears.{AreYears}
use Rattle.cal_east_asian.specs.EastAsianPlaces.{days_of_months}
use Rattle.cal_east_asian.specs.EastAsianList.{east_asian_list, east_asian_years}
use Rattle.cal_east_asian.specs.laws.EastAsianListLaws.{count-small, days_before-east_asian}
use Rattle.cal_east_asian.specs.laws.EastAsianGivenLaws.{long-given, start-given}
use Rattle.cal_east_asian.specs.declared.east_asian_traditional_year.EastAsianTraditionalYear.{EastAsianTraditionalYear}
use Rattle.cal_east_asian.proofs.Finding.{new_year-small}
use Rattle.cal_east_asian.proofs.east_asian_traditional.EastAsianTraditionalYearShapes.to_rata_die_inner.Goals as goal

pub days_before_month-requires : goal.days_before_month-requires
days_before_month-requires g c = (c.requires.date.place.0, omega (arith, c.requires.date.place.1, count-small (g.R.Rules.year_of c.args.self.now.0) c.args.year.related_iso))

small : (year_of : ℤ → EastAsianTraditionalYear) → AreYears year_of → (y : EastAsianTraditionalYear) → IsGiven (east_asian_years year_of) y → IsBetween (neg_ℤ (pos 4000000000)) (pos 4000000000) y.new_year
small year_of law y given = new_year-small year_of law y y.related_iso (sym given.same) given.range

pub counted_day-requires-clause-first : goal.counted_day-requires-clause-first
counted_day-requires-clause-first g c =
    let s = c.args.self.now.0 in
    let first = small (g.R.Rules.year_of s) (g.met.R.Rules.lawful s) c.args.year c.requires.year in
    subst (IsBetween (neg_ℤ (pos 4000000000)) (pos 4000000000)) (sym (handed _ first)) first

-- the days before the month in a place
before_place : (year_of : ℤ → EastAsianTraditionalYear) (y : ℤ) (i long : ℕ) → HasPlace (east_asian_list year_of) y i → (n : ℕ) → n + 1 ≡ i → days_before (east_asian_list year_of) y (n + 1) ≡ days_of_months long n → days_before (east_asian_list year_of) y i ≡ days_of_months long (i - 1)
before_place year_of y i long h n e known =
    let less : n ≡ i - 1 = omega (arith, e) in
    ap (days_before (east_asian_list year_of) y) (sym e) ∙ (known ∙ ap (days_of_months long) less)

pub returns : goal.returns
returns g c =
    let s = c.args.self.now.0 in
    let year_of = g.R.Rules.year_of s in
    let year = c.args.year in
    let n = c.args.month - 1 in
    let back : n + 1 ≡ c.args.month = omega (arith, c.requires.date.place.0) in
    let known = days_before-east_asian year_of year.related_iso n (omega (arith, c.requires.date.place)) ∙ ap (λ (long : ℕ). days_of_months long n) (long-given year_of year c.requires.year) in
    let before : days_before (east_asian_list year_of) year.related_iso c.args.month ≡ c.days_before_month.result = before_place year_of year.related_iso c.args.month year.long_months c.requires.date.place n back known ∙ sym c.days_before_month.ensures.value in
    let first = handed year.new_year (small year_of (g.met.R.Rules.lawful s) year c.requires.year) in
    let number = c.counted_day.ensures ∙ (ap (λ (x : ℤ). x +ℤ pos c.days_before_month.result +ℤ pos c.args.day -ℤ pos 1) first ∙ ap (λ (n : ℕ). year.new_year +ℤ pos n +ℤ pos c.args.day -ℤ pos 1) (sym before)) in
    sum year.new_year c.counted_day.result (start_of_year (east_asian_list year_of) year.related_iso) (days_before (east_asian_list year_of) year.related_iso c.args.month) c.args.day (start-given year_of year c.requires.year (g.met.R.Rules.lawful s)) c.requires.date.day.0 number
