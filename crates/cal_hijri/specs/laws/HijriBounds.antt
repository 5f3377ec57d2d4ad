-- The bounds on the days and months of a Hijri list, since each year starts within 5 days of its mean start.
use Rattle.std.proofs.Common.{◌≡◌, ◌≤◌, subst, arith, ℤ, pos, neg_ℤ, ◌+ℤ◌, ◌-ℤ◌, ◌*ℤ◌, ◌≤ℤ◌, ◌<ℤ◌, unsigned_abs}
use Rattle.std.proofs.lemmas.Int.{by_lt_z}
use Rattle.cal_days.specs.Day.{IsBetween, IsValidDay, IsFieldYear, IsRuleYear, IsCoveredYear}
use Rattle.cal_days.proofs.IslamicLemmas.{mean_start-bounds}
use Rattle.cal_days.proofs.Signed.{signed}
use Rattle.cal_types.specs.CalendarList.{Date, month_number, year_length, start_of_year, day_number, IsDate, IsValidDate}
use Rattle.cal_types.proofs.ListLemmas.{date-in_year, start_of_year-later}
use Rattle.cal_types.proofs.PlainMonthLemmas.{apart-plain}
use Rattle.cal_hijri.specs.HijriMonths.{IsNearMean}
use Rattle.cal_hijri.specs.HijriList.{hijri_list, Joins, Numbered}
use Rattle.cal_hijri.specs.laws.HijriLaws.{start-rule}
use Rattle.cal_hijri.specs.laws.HijriShapes.{hijri_list-plain, year_length-within}
use Rattle.cal_hijri.specs.declared.hijri_year.HijriYear.{HijriYear}

module _ (year_of : ℤ → HijriYear) (numbered : Numbered year_of) (joins : Joins year_of) where
  -- a rule year starts within 5 days of its mean start
  pub first-near : (y : ℤ) → IsRuleYear y → IsNearMean y (year_of y).first_day
  first-near y rule = subst (λ (x : ℤ). IsNearMean x (year_of y).first_day) (numbered y rule) (year_of y).near

  pub start-bounds : (y : ℤ) → IsRuleYear y → ((pos 30 *ℤ start_of_year (hijri_list year_of) y) ≤ℤ (pos 10631 *ℤ y +ℤ pos 6799998)) × ((pos 10631 *ℤ y +ℤ pos 6799640) ≤ℤ (pos 30 *ℤ start_of_year (hijri_list year_of) y))
  start-bounds y rule =
      let first = first-near y rule in
      let mean = mean_start-bounds y in
      let start = start-rule year_of joins y rule in
      (omega (arith, signed, first, mean, start), omega (arith, signed, first, mean, start))

  day-bounds : (t : Date) → IsDate (hijri_list year_of) t → (start_of_year (hijri_list year_of) t.year ≤ℤ day_number (hijri_list year_of) t) × (day_number (hijri_list year_of) t <ℤ (start_of_year (hijri_list year_of) t.year +ℤ pos (year_length (hijri_list year_of) t.year)))
  day-bounds t h =
      let within = date-in_year (hijri_list year_of) t h in
      (omega (arith, signed), omega (arith, signed, within, h.day))

  pub day_number-near : (t : Date) → IsRuleYear t.year → IsDate (hijri_list year_of) t → IsBetween (neg_ℤ (pos 4000000000)) (pos 4000000000) (day_number (hijri_list year_of) t)
  day_number-near t rule h =
      let bounds = day-bounds t h in
      let start = start-bounds t.year rule in
      let length = year_length-within year_of t.year in
      (omega (arith, signed, bounds, start, length), omega (arith, signed, bounds, start, length))

  not-later : (t : Date) → IsValidDate (hijri_list year_of) t → t.year ≤ℤ pos 1035000
  not-later t h =
      by_lt_z {P = t.year ≤ℤ pos 1035000} (pos 1035000) t.year
      (λ lt. absurd (omega (arith, signed, day-bounds t h.date, h.valid, start_of_year-later (hijri_list year_of) (pos 1035000) t.year lt, start-bounds (pos 1035000) (omega (arith, signed), omega (arith, signed)))))
      (λ le. le)

  not-earlier : (t : Date) → IsValidDate (hijri_list year_of) t → neg_ℤ (pos 1035000) ≤ℤ t.year
  not-earlier t h =
      by_lt_z {P = neg_ℤ (pos 1035000) ≤ℤ t.year} t.year (neg_ℤ (pos 1035000))
      (λ lt. absurd (omega (arith, signed, day-bounds t h.date, h.valid, start_of_year-later (hijri_list year_of) t.year (neg_ℤ (pos 1035000)) lt, start-bounds (neg_ℤ (pos 1035000)) (omega (arith, signed), omega (arith, signed)))))
      (λ le. le)

  -- the years of valid days
  year_of_valid_date : (t : Date) → IsValidDate (hijri_list year_of) t → IsBetween (neg_ℤ (pos 1035000)) (pos 1035000) t.year
  year_of_valid_date t h = (not-earlier t h, not-later t h)

  pub years-ranged : (t : Date) → IsValidDate (hijri_list year_of) t → IsFieldYear t.year × IsFieldYear (t.year +ℤ pos 0)
  years-ranged t h =
      let year = year_of_valid_date t h in
      ((omega (arith, signed, year), omega (arith, signed, year)), (omega (arith, signed, year), omega (arith, signed, year)))

  pub days-covered : (t : Date) → IsCoveredYear t.year → IsDate (hijri_list year_of) t → IsValidDay (day_number (hijri_list year_of) t)
  days-covered t within h =
      let bounds = day-bounds t h in
      let start = start-bounds t.year (omega (arith, signed, within), omega (arith, signed, within)) in
      let length = year_length-within year_of t.year in
      (omega (arith, signed, bounds, start, length), omega (arith, signed, bounds, start, length))

  -- valid dates are at most 27040000 months apart: as many as 2080000 years of 13 months have
  pub months-apart : (t u : Date) → IsValidDate (hijri_list year_of) t → IsValidDate (hijri_list year_of) u → unsigned_abs (month_number (hijri_list year_of) u.year u.month -ℤ month_number (hijri_list year_of) t.year t.month) ≤ 27040000
  months-apart t u h k =
      let first = year_of_valid_date t h in
      let second = year_of_valid_date u k in
      apart-plain 12 (hijri_list year_of) (hijri_list-plain year_of) t u h.date.place k.date.place
      (omega (arith, signed, first), omega (arith, signed, first)) (omega (arith, signed, second), omega (arith, signed, second))

-- a year's stored number is its extended year
pub stored-extended : (y : ℤ) → y ≡ y +ℤ pos 0
stored-extended y = omega (arith, signed)
