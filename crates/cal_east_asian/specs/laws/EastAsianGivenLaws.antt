-- What a year that rules gave says of its list, and what two calendars share.
use Rattle.std.proofs.Common.{◌≡◌, sym, ap, ◌∙◌, arith, ℤ}
use Rattle.std.specs.Prelude.{IsTrue}
use Rattle.cal_days.specs.Day.{IsRuleYear}
use Rattle.cal_days.proofs.Signed.{signed}
use Rattle.cal_types.specs.CalendarList.{IsValidDate, is_valid_date, day_number, start_of_year}
use Rattle.cal_types.proofs.DateTests.{and-left, and-right, is_valid_date-true}
use Rattle.cal_arith.specs.Given.{IsGiven}
use Rattle.cal_base.specs.OwnYears.{IsSharedYear}
use Rattle.cal_base.specs.laws.OwnYearLaws.{own_shared, shared_day}
use Rattle.cal_east_asian.specs.EastAsianYears.{AreYears}
use Rattle.cal_east_asian.specs.RuleYears.{rule_year}
use Rattle.cal_east_asian.specs.laws.RuleYearLaws.{rule_year-same}
use Rattle.cal_east_asian.specs.EastAsianList.{east_asian_list, east_asian_years, entries_of}
use Rattle.cal_east_asian.specs.laws.EastAsianListLaws.{leap_place_of, long_months_of}
use Rattle.cal_east_asian.specs.laws.EastAsianStartLaws.{start-rule, years-ranged}
use Rattle.cal_arith.specs.declared.dates.Ymd.{Ymd}
use Rattle.cal_east_asian.specs.EastAsianSystem.{kept_date, east_asian_belongs}
use Rattle.cal_east_asian.specs.SameYears.{same_year}
use Rattle.cal_east_asian.specs.laws.SameYearLaws.{same_year-tested}
use Rattle.cal_east_asian.specs.declared.east_asian_traditional_year.EastAsianTraditionalYear.{EastAsianTraditionalYear}

module _ (year_of : ℤ → EastAsianTraditionalYear) (y : EastAsianTraditionalYear) (given : IsGiven (east_asian_years year_of) y) where
  -- it is the year that the list has
  pub year-given : year_of (rule_year y.related_iso) ≡ y
  year-given = ap year_of (rule_year-same y.related_iso given.range) ∙ given.same

  pub leap-given : leap_place_of year_of y.related_iso ≡ y.leap_month
  leap-given = ap (λ (x : EastAsianTraditionalYear). x.leap_month) year-given

  pub long-given : long_months_of year_of y.related_iso ≡ y.long_months
  long-given = ap (λ (x : EastAsianTraditionalYear). x.long_months) year-given

  pub start-given : AreYears year_of → start_of_year (east_asian_list year_of) y.related_iso ≡ y.new_year
  start-given law = start-rule year_of law y.related_iso given.range ∙ ap (λ (x : EastAsianTraditionalYear). x.new_year) given.same

-- rules that give the same years share them
pub shared-given : (s t : ℤ → EastAsianTraditionalYear) → AreYears s → AreYears t → ((y : ℤ) → IsRuleYear y → s y ≡ t y) → (y : EastAsianTraditionalYear) → IsGiven (east_asian_years s) y → IsSharedYear (east_asian_years s) (east_asian_years t) y
unfolding east_asian_list
shared-given s t here there same y given =
    let also : IsGiven (east_asian_years t) y = record { same = sym (same y.related_iso given.range) ∙ given.same; range = given.range } in
    record {
      given = also;
      start = start-given t y also there ∙ sym (start-given s y given here);
      months = ap entries_of (year-given t y also ∙ sym (year-given s y given));
    }

module _ (year_of : ℤ → EastAsianTraditionalYear) (p : Ymd EastAsianTraditionalYear) (h : IsTrue (east_asian_belongs year_of p)) where
  -- what belongs is a valid date of the list
  pub belongs-valid : IsTrue (is_valid_date (east_asian_list year_of) (kept_date p))
  belongs-valid = and-right (same_year (year_of p.year.related_iso) p.year) (is_valid_date (east_asian_list year_of) (kept_date p)) h

  pub belongs-dated : IsValidDate (east_asian_list year_of) (kept_date p)
  belongs-dated = is_valid_date-true (east_asian_list year_of) (kept_date p) belongs-valid

module _ (s t : ℤ → EastAsianTraditionalYear) (here : AreYears s) (there : AreYears t) (same : (y : ℤ) → IsRuleYear y → s y ≡ t y) (p : Ymd EastAsianTraditionalYear) (h : IsTrue (east_asian_belongs s p)) where
  given : IsGiven (east_asian_years s) p.year
  given =
      let field = (years-ranged s here (kept_date p) (belongs-dated s p h)).0 in
      record {
        same = (same_year-tested s p.year).0 (and-left (same_year (s p.year.related_iso) p.year) (is_valid_date (east_asian_list s) (kept_date p)) h);
        range = (omega (arith, signed, field), omega (arith, signed, field));
      }

  -- a date of shared years belongs to both calendars, with the same day number
  pub belongs-shared : IsTrue (east_asian_belongs t p)
  belongs-shared =
      own_shared (east_asian_years s) (east_asian_years t) p (shared-given s t here there same p.year given)
      (λ y. same_year (s y.related_iso) y) (λ y. same_year (t y.related_iso) y) (same_year-tested t p.year) h

  pub day-shared : day_number (east_asian_list t) (kept_date p) ≡ day_number (east_asian_list s) (kept_date p)
  day-shared = shared_day (east_asian_years s) (east_asian_years t) p (shared-given s t here there same p.year given)
