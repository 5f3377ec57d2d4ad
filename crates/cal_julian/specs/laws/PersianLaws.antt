-- The months and the first days of the years of a Persian list, its bounds, and what lists with the same corrections share.
use Rattle.std.proofs.Common.{◌≡◌, ℕ, ◌+◌, ◌-◌, ◌<◌, ◌≤◌, Bool, true, false, if◌then◌else◌, List, [], ◌∷◌, refl, sym, ap, subst, ◌∙◌, arith, ℤ, pos, neg_ℤ, ◌+ℤ◌, ◌-ℤ◌, ◌≤ℤ◌, ◌<ℤ◌, unsigned_abs, inl}
use Rattle.std.specs.Ordering.{int_eq}
use Rattle.std.specs.Cmp.Lexicographic.{pointwise}
use Rattle.cal_days.specs.Day.{IsBetween, IsValidDay, IsFieldYear, IsRuleYear, IsCoveredYear}
use Rattle.cal_days.specs.Persian.{persian_start}
use Rattle.cal_days.proofs.Signed.{signed}
use Rattle.cal_days.proofs.PersianLemmas.{persian_start-bounds}
use Rattle.cal_types.specs.CalendarList.{Date, date, days_before, month_length, month_number, year_length, start_of_year, day_number, HasPlace, IsDate, IsOn, IsValidDate, IsLawful}
use Rattle.cal_types.specs.PlainMonths.{HasPlainMonths}
use Rattle.cal_types.proofs.DateTests.{and-left, and-right}
use Rattle.cal_types.proofs.ListLemmas.{start_of_year-unique, date-in_year, on-rest}
use Rattle.cal_types.proofs.PlainMonthLemmas.{plain-lawful, apart-plain}
use Rattle.cal_arith.specs.Given.{IsGiven}
use Rattle.cal_base.specs.OwnYears.{IsSharedYear}
use Rattle.cal_julian.specs.PersianRule.{AreCorrectable, is_persian_leap, persian_new_year}
use Rattle.cal_julian.specs.laws.PersianRuleLaws.{int_eq-same, persian_new_year-first, persian_new_year-near, persian_new_year-next}
use Rattle.cal_julian.specs.PersianList.{persian_list, persian_month_length, persian_days_before, persian_years}
use Rattle.cal_julian.specs.PersianMonths.{month_of_day}
use Rattle.cal_julian.specs.laws.PersianMonthLaws.{month_of_day-place, month_found, persian_days, persian_month-at, persian_month_length-within}
use Rattle.cal_base.specs.declared.numbered_year.NumberedYear.{NumberedYear}

module _ (years : List ℤ) where
  pub days_before-persian : (y : ℤ) (i : ℕ) → days_before (persian_list years) y i ≡ persian_days_before (is_persian_leap years y) i
  unfolding persian_list days_before
  days_before-persian y i = refl

  pub month_length-persian : (y : ℤ) (i : ℕ) → month_length (persian_list years) y i ≡ persian_month_length (is_persian_leap years y) i
  unfolding persian_list
  month_length-persian y i = refl

  pub year_length-persian : (y : ℤ) → year_length (persian_list years) y ≡ (if is_persian_leap years y then 366 else 365)
  unfolding persian_list
  year_length-persian y = persian_days (is_persian_leap years y)

  pub persian_list-plain : HasPlainMonths 12 (persian_list years)
  unfolding persian_list
  persian_list-plain = record {
    number = inl refl;
    count = λ y. refl;
    months = λ y i low high. persian_month-at (is_persian_leap years y) i low high;
    lengths = λ y i low high. persian_month_length-within (is_persian_leap years y) i low high;
    kind = λ m. refl;
  }

  -- the list is a calendar's, whichever years are corrected
  pub persian_list-lawful : IsLawful (persian_list years)
  persian_list-lawful = plain-lawful 12 (persian_list years) persian_list-plain

  -- a day of a year, counted from 0, is a day of the month that it was found in
  pub day_found : (y : ℤ) (month day p : ℕ) → p < (if is_persian_leap years y then 366 else 365) → month ≡ month_of_day p → day ≡ p - persian_days_before (is_persian_leap years y) month + 1 → IsOn (persian_list years) (start_of_year (persian_list years) y +ℤ pos p) (date y month day)
  day_found y month day p h found same =
      let leap = is_persian_leap years y in
      let within : p < 366 = within_366 leap p h in
      let place : (1 ≤ month) × (month ≤ 12) = subst (λ (m : ℕ). (1 ≤ m) × (m ≤ 12)) (sym found) (month_of_day-place p within) in
      let here : HasPlace (persian_list years) y month = (place.0, omega (arith, place.1, persian_list-plain.count y)) in
      let inside = month_found leap p month h place found in
      let before = days_before-persian y month in
      let number : start_of_year (persian_list years) y +ℤ pos (days_before (persian_list years) y month + (p - persian_days_before leap month)) ≡ start_of_year (persian_list years) y +ℤ pos p = omega (arith, signed, before, inside.0) in
      subst (λ (d : ℕ). IsOn (persian_list years) (start_of_year (persian_list years) y +ℤ pos p) (date y month d)) (sym same)
      (on-rest (persian_list years) y month (p - persian_days_before leap month) (start_of_year (persian_list years) y +ℤ pos p) here number (omega (arith, month_length-persian y month, inside.0, inside.1)))
    where
      within_366 : (leap : Bool) (p : ℕ) → p < (if leap then 366 else 365) → p < 366
      within_366 true p h = h
      within_366 false p h = omega arith

  module _ (known : AreCorrectable years) where
    new_year-anchor : persian_new_year years (persian_list years).anchor_year ≡ (persian_list years).anchor_day
    unfolding persian_list
    new_year-anchor = persian_new_year-first years known

    -- each year of the list starts where the closed form says
    pub start_of_year-persian : (y : ℤ) → start_of_year (persian_list years) y ≡ persian_new_year years y
    start_of_year-persian y =
        start_of_year-unique (persian_list years) (persian_new_year years) new_year-anchor
        (λ z. persian_new_year-next years known z ∙ ap (λ (n : ℕ). persian_new_year years z +ℤ pos n) (sym (year_length-persian z))) y

    -- a date lies between its year's start and the next
    day_number-persian : (t : Date) → IsDate (persian_list years) t → (persian_start t.year ≤ℤ (day_number (persian_list years) t +ℤ pos 1)) × (day_number (persian_list years) t <ℤ persian_start (t.year +ℤ pos 1))
    day_number-persian t h =
        let start = start_of_year-persian t.year in
        let near = persian_new_year-near years t.year in
        let after = persian_new_year-near years (t.year +ℤ pos 1) in
        let next = persian_new_year-next years known t.year in
        (omega (arith, signed, start, near), omega (arith, signed, start, h.day.0, date-in_year (persian_list years) t h, year_length-persian t.year, next, after))

    -- the days of rule years are far from the ends of the number types
    pub day_number-near : (t : Date) → IsRuleYear t.year → IsDate (persian_list years) t → IsBetween (neg_ℤ (pos 4000000000)) (pos 4000000000) (day_number (persian_list years) t)
    day_number-near t rule h =
        let within = day_number-persian t h in
        let low = persian_start-bounds t.year in
        let high = persian_start-bounds (t.year +ℤ pos 1) in
        (omega (arith, signed, within.0, low, rule), omega (arith, signed, within.1, high, rule))

    -- a valid day's year is one that fields may name, and is small
    year_of_valid_date : (t : Date) → IsValidDate (persian_list years) t → IsBetween (neg_ℤ (pos 1030000)) (pos 1030000) t.year
    year_of_valid_date t h =
        let within = day_number-persian t h.date in
        let low = persian_start-bounds t.year in
        let high = persian_start-bounds (t.year +ℤ pos 1) in
        (omega (arith, signed, within, high, h.valid), omega (arith, signed, within, low, h.valid))

    pub years-ranged : (t : Date) → IsValidDate (persian_list years) t → IsFieldYear t.year × IsFieldYear (t.year +ℤ pos 0)
    years-ranged t h =
        let year = year_of_valid_date t h in
        ((omega (arith, signed, year), omega (arith, signed, year)), (omega (arith, signed, year), omega (arith, signed, year)))

    -- the days of the years around year 1 are valid
    pub days-covered : (t : Date) → IsCoveredYear t.year → IsDate (persian_list years) t → IsValidDay (day_number (persian_list years) t)
    days-covered t year h =
        let within = day_number-persian t h in
        let low = persian_start-bounds t.year in
        let high = persian_start-bounds (t.year +ℤ pos 1) in
        (omega (arith, signed, within.0, low, year), omega (arith, signed, within.1, high, year))

    -- valid dates are at most 27040000 months apart: as many as 2080000 years of 13 months have
    pub months-apart : (t u : Date) → IsValidDate (persian_list years) t → IsValidDate (persian_list years) u → unsigned_abs (month_number (persian_list years) u.year u.month -ℤ month_number (persian_list years) t.year t.month) ≤ 27040000
    months-apart t u h k =
        let first = year_of_valid_date t h in
        let second = year_of_valid_date u k in
        apart-plain 12 (persian_list years) persian_list-plain t u h.date.place k.date.place
        (omega (arith, signed, first), omega (arith, signed, first)) (omega (arith, signed, second), omega (arith, signed, second))

-- a year's stored number is its extended year
pub stored-extended : (y : ℤ) → y ≡ y +ℤ pos 0
stored-extended y = omega (arith, signed)

-- years that are equal one by one are the same years
pub same_years : (xs ys : List ℤ) → pointwise int_eq xs ys ≡ true → xs ≡ ys
same_years [] [] h = refl
same_years [] (y ∷ ys) h = absurd (differ h) where
  differ : ◌≡◌ {A = Bool} false true → ⊥
  differ e = cc
same_years (x ∷ xs) [] h = absurd (differ h) where
  differ : ◌≡◌ {A = Bool} false true → ⊥
  differ e = cc
same_years (x ∷ xs) (y ∷ ys) h =
    let first = int_eq-same x y (and-left (int_eq x y) (pointwise int_eq xs ys) h) in
    let rest = same_years xs ys (and-right (int_eq x y) (pointwise int_eq xs ys) h) in
    ap (λ (z : ℤ). z ∷ xs) first ∙ ap (λ (zs : List ℤ). y ∷ zs) rest

-- and calendars with the same corrections have the same years
pub years-shared : (xs ys : List ℤ) → pointwise int_eq xs ys ≡ true → (y : NumberedYear) → IsGiven (persian_years xs) y → IsSharedYear (persian_years xs) (persian_years ys) y
years-shared xs ys h y given = subst (λ (zs : List ℤ). IsSharedYear (persian_years xs) (persian_years zs) y) (same_years xs ys h) (record { given = given; start = refl; months = refl })
