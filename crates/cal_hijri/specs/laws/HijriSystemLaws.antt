-- What a date that belongs to a Hijri calendar is, and what two calendars share.
use Rattle.std.proofs.Common.{◌≡◌, ◌∙◌, Bool, ℤ, arith}
use Rattle.std.specs.Prelude.{IsTrue}
use Rattle.std.specs.Cmp.{IsEquivalence}
use Rattle.cal_days.specs.Day.{IsRuleYear}
use Rattle.cal_days.proofs.Signed.{signed}
use Rattle.cal_arith.specs.Given.{IsGiven}
use Rattle.cal_types.specs.CalendarList.{IsValidDate, is_valid_date, day_number}
use Rattle.cal_types.proofs.DateTests.{and-left, and-right, is_valid_date-true}
use Rattle.cal_base.specs.laws.OwnYearLaws.{own_shared, shared_day}
use Rattle.cal_hijri.specs.HijriList.{hijri_list, hijri_years, has_parts_of, Joins, Numbered}
use Rattle.cal_hijri.specs.laws.HijriBounds.{years-ranged}
use Rattle.cal_hijri.specs.laws.GivenYears.{shared-given}
use Rattle.cal_hijri.specs.HijriSystem.{hijri_belongs, kept_date}
use Rattle.cal_hijri.specs.laws.SameYears.{has_parts_of-tested}
use Rattle.cal_arith.specs.declared.dates.Ymd.{Ymd}
use Rattle.cal_hijri.specs.declared.hijri_year.HijriYear.{HijriYear}

module _ (year_of : ℤ → HijriYear) (p : Ymd HijriYear) (h : IsTrue (hijri_belongs year_of p)) where
  pub belongs-valid : IsTrue (is_valid_date (hijri_list year_of) (kept_date p))
  belongs-valid = and-right (has_parts_of (year_of p.year.extended_year) p.year) (is_valid_date (hijri_list year_of) (kept_date p)) h

  pub belongs-dated : IsValidDate (hijri_list year_of) (kept_date p)
  belongs-dated = is_valid_date-true (hijri_list year_of) (kept_date p) belongs-valid

module _ (s t : ℤ → HijriYear) (numbered : Numbered s) (here : Joins s) (there : Joins t) (same : (y : ℤ) → IsRuleYear y → s y ≡ t y) (p : Ymd HijriYear) (h : IsTrue (hijri_belongs s p)) where
  given : IsGiven (hijri_years s) p.year
  given =
      let field = (years-ranged s numbered here (kept_date p) (belongs-dated s p h)).0 in
      record {
        same = (has_parts_of-tested s p.year).0 (and-left (has_parts_of (s p.year.extended_year) p.year) (is_valid_date (hijri_list s) (kept_date p)) h);
        range = (omega (arith, signed, field), omega (arith, signed, field));
      }

  -- a date belongs to both or to neither
  pub belongs-shared : IsTrue (hijri_belongs t p)
  belongs-shared =
      own_shared (hijri_years s) (hijri_years t) p (shared-given s t here there same p.year given)
      (λ y. has_parts_of (s y.extended_year) y) (λ y. has_parts_of (t y.extended_year) y) (has_parts_of-tested t p.year) h

  -- with the same day number
  pub day-shared : day_number (hijri_list t) (kept_date p) ≡ day_number (hijri_list s) (kept_date p)
  day-shared = shared_day (hijri_years s) (hijri_years t) p (shared-given s t here there same p.year given)

-- what is equivalent is so both ways and on
module _ {A : Type 0} {alike : A → A → Bool} (law : IsEquivalence alike) where
  pub alike-back : (a b : A) → IsTrue (alike a b) → IsTrue (alike b a)
  alike-back a b h = law.symm b a ∙ h

  pub alike-on : (a b c : A) → IsTrue (alike a b) → IsTrue (alike b c) → IsTrue (alike a c)
  alike-on a b c h k = law.congr a b c h ∙ k
