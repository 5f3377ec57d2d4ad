-- The months of a Hijri list.
use Rattle.std.proofs.Common.{◌≡◌, ℕ, ◌≤◌, refl, arith, ℤ, inl}
use Rattle.cal_types.specs.CalendarList.{days_before, month_length, year_length, IsLawful}
use Rattle.cal_types.specs.PlainMonths.{HasPlainMonths}
use Rattle.cal_types.proofs.PlainMonthLemmas.{plain-lawful}
use Rattle.cal_hijri.specs.HijriMonths.{days_of_months, month_days, prior_days}
use Rattle.cal_hijri.specs.laws.HijriMonthLaws.{days_of_months-within, month_at-numbered, month_days-within}
use Rattle.cal_hijri.specs.HijriList.{hijri_list, long_months_of}
use Rattle.cal_hijri.specs.declared.hijri_year.HijriYear.{HijriYear}

module _ (year_of : ℤ → HijriYear) where
  pub month_length-hijri : (y : ℤ) (i : ℕ) → month_length (hijri_list year_of) y i ≡ month_days (long_months_of year_of y) i
  unfolding hijri_list
  month_length-hijri y i = refl

  pub days_before-hijri : (y : ℤ) (i : ℕ) → days_before (hijri_list year_of) y i ≡ prior_days (long_months_of year_of y) i
  unfolding days_before hijri_list
  days_before-hijri y i = refl

  pub year_length-hijri : (y : ℤ) → year_length (hijri_list year_of) y ≡ days_of_months (long_months_of year_of y)
  unfolding hijri_list
  year_length-hijri y = refl

  pub year_length-within : (y : ℤ) → (348 ≤ year_length (hijri_list year_of) y) × (year_length (hijri_list year_of) y ≤ 360)
  year_length-within y =
      let within = days_of_months-within (long_months_of year_of y) in
      (omega (arith, within, year_length-hijri y), omega (arith, within, year_length-hijri y))

  -- each year has the plain months 1 to 12
  pub hijri_list-plain : HasPlainMonths 12 (hijri_list year_of)
  unfolding hijri_list
  hijri_list-plain = record {
    number = inl refl;
    count = λ y. refl;
    months = λ y i low high. month_at-numbered (long_months_of year_of y) i low high;
    lengths = λ y i low high. let within = month_days-within (long_months_of year_of y) i low high in (omega (arith, within), omega (arith, within));
    kind = λ m. refl;
  }

  -- the list is a calendar's
  pub hijri_list-lawful : IsLawful (hijri_list year_of)
  hijri_list-lawful = plain-lawful 12 (hijri_list year_of) hijri_list-plain
