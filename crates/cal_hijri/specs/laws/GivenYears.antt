-- Years that the rules gave, and years that two rules share.
use Rattle.std.proofs.Common.{◌≡◌, ℕ, Bool, if◌then◌else◌, sym, ap, ◌∙◌, ℤ, pos, neg_ℤ}
use Rattle.std.specs.Prelude.{sum_by}
use Rattle.cal_days.specs.Day.{IsRuleYear}
use Rattle.cal_days.proofs.RangeLemmas.{true-is_between}
use Rattle.cal_types.specs.CalendarList.{start_of_year, year_length, days_of}
use Rattle.cal_arith.specs.Given.{IsGiven}
use Rattle.cal_base.specs.OwnYears.{IsSharedYear}
use Rattle.cal_hijri.specs.HijriMonths.{months_of}
use Rattle.cal_hijri.specs.HijriList.{hijri_list, hijri_years, hijri_days, tabular_long, long_months_of, Joins}
use Rattle.cal_hijri.specs.laws.HijriLaws.{start-rule}
use Rattle.cal_hijri.specs.declared.hijri_year.HijriYear.{HijriYear}

-- within the rules' range the list has the long months of their years
pub long-rule : (year_of : ℤ → HijriYear) (y : ℤ) → IsRuleYear y → long_months_of year_of y ≡ (year_of y).long_months
long-rule year_of y rule =
    ap (λ (b : Bool). if b then (year_of y).long_months else tabular_long y) (true-is_between (neg_ℤ (pos 8000000)) (pos 8000000) y rule)

-- the list has the long months of a given year
pub long-given : (year_of : ℤ → HijriYear) (y : HijriYear) → IsGiven (hijri_years year_of) y → long_months_of year_of y.extended_year ≡ y.long_months
long-given year_of y given = long-rule year_of y.extended_year given.range ∙ ap (λ (x : HijriYear). x.long_months) given.same

-- and as many days
pub length-given : (year_of : ℤ → HijriYear) (y : HijriYear) → IsGiven (hijri_years year_of) y → year_length (hijri_list year_of) y.extended_year ≡ hijri_days y
unfolding hijri_list
length-given year_of y given = ap (λ (n : ℕ). sum_by days_of (months_of n)) (long-given year_of y given)

-- a given year starts where the list says
pub start-given : (year_of : ℤ → HijriYear) → Joins year_of → (y : HijriYear) → IsGiven (hijri_years year_of) y → start_of_year (hijri_list year_of) y.extended_year ≡ y.first_day
start-given year_of joins y given = start-rule year_of joins y.extended_year given.range ∙ ap (λ (x : HijriYear). x.first_day) given.same

-- rules that give the same years share them
pub shared-given : (s t : ℤ → HijriYear) → Joins s → Joins t → ((y : ℤ) → IsRuleYear y → s y ≡ t y) → (y : HijriYear) → IsGiven (hijri_years s) y → IsSharedYear (hijri_years s) (hijri_years t) y
unfolding hijri_list
shared-given s t here there same y given =
    let also : IsGiven (hijri_years t) y = record { same = sym (same y.extended_year given.range) ∙ given.same; range = given.range } in
    record {
      given = also;
      start = start-given t there y also ∙ sym (start-given s here y given);
      months = ap months_of (long-given t y also ∙ sym (long-given s y given));
    }
