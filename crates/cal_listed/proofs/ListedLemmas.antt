-- What listed years say of a calendar that has them.
use Rattle.std.proofs.Common.{◌≡◌, ℕ, zero, suc, ◌+◌, ◌-◌, ◌<◌, ◌≤◌, ◌⊎◌, inl, inr, None, List, [], ◌∷◌, length, take, map, sum_by, get_or, Some, true, nat_le, slice_get, refl, sym, ap, arith, ℤ, pos, ◌+ℤ◌, ◌-ℤ◌, ◌<ℤ◌, ◌≤ℤ◌}
use Rattle.std.proofs.lemmas.List.{length-map, take-map}
use Rattle.std.proofs.lemmas.Bool.Decides.{nat_tests}
use Rattle.std.proofs.lemmas.List.Folds.{list_all_at}
use Rattle.std.proofs.lemmas.List.Sums.{sum_by-cons, sum_by_more, sum_by-take-le}
use Rattle.std.proofs.lemmas.Option.{slice_get_cases, slice_get_within, get_or_from_slice_get}
use Rattle.cal_days.specs.Sums.{years_up}
use Rattle.cal_days.proofs.Signed.{signed, by_bool}
use Rattle.cal_listed.specs.declared.listed_years.ListedMonth.{ListedMonth}
use Rattle.cal_listed.specs.declared.listed_years.ListedYears.{ListedYears}
use Rattle.cal_types.specs.CalendarList.{CalendarList, Date, date, days_of, month_count, year_length, start_of_year, days_before, day_number, HasPlace, IsDate}
use Rattle.cal_listed.specs.YearList.{YearList, are_short, days_in, days_in_years}
use Rattle.cal_listed.specs.ListedYears.{entry_of, IsListOf, IsListed}
use Rattle.cal_types.proofs.ListLemmas.{start_of_year-next, days_before-next}

-- the days of listed months are those of their entries
sum_by-entry_of : (months : List ListedMonth) → sum_by days_of (map entry_of months) ≡ days_in months
sum_by-entry_of [] = refl
sum_by-entry_of (m ∷ months) =
    omega (arith, sum_by-cons days_of (entry_of m) (map entry_of months), sum_by-cons (λ (x : ListedMonth). x.days) m months, sum_by-entry_of months)

module _ (c : CalendarList) (y : ℤ) (months : List ListedMonth) (same : c.entries y ≡ map entry_of months) where
  -- a listed year has the listed months
  pub month_count-listed : month_count c y ≡ length months
  month_count-listed = rw same (length-map months entry_of)

  -- and their days
  pub year_length-listed : year_length c y ≡ days_in months
  year_length-listed = rw same (sum_by-entry_of months)

  -- so the days before a month are those of the listed ones
  pub days_before-listed : (i : ℕ) → days_before c y i ≡ days_in (take (i - 1) months)
  unfolding days_before
  days_before-listed i = rw (same, take-map entry_of (i - 1) months) (sum_by-entry_of (take (i - 1) months))

-- the days of one more listed year
pub days_in_years-next : (years : List YearList) (k : ℕ) (year : YearList) → slice_get years k ≡ Some year → days_in_years (take (k + 1) years) ≡ days_in_years (take k years) + days_in year.now
days_in_years-next years k year there =
    let lt = slice_get_within years k year there in
    omega (arith, sum_by_more (λ (x : YearList). days_in x.now) years k year lt, ap (λ (x : YearList). days_in x.now) (get_or_from_slice_get years k year year there))

-- no listed year has more than 13 months
pub month_count-short : (years : List YearList) (k : ℕ) (d : YearList) → are_short years ≡ true → k < length years → length (get_or years k d).now ≤ 13
month_count-short years k d short lt =
    by_bool {P = length (get_or years k d).now ≤ 13} (nat_le (length (get_or years k d).now) 13)
    (λ holds. grind (arith, nat_tests))
    (λ fails. let long = list_all_at (λ (year : YearList). nat_le (length year.now) 13) years k d lt fails in cc)

-- there is a listed year at each index
pub year-listed : (years : List YearList) (k : ℕ) → k < length years → (year : YearList) × (slice_get years k ≡ Some year)
year-listed years k lt = either (slice_get_cases years k).1 where
  either : ((x : YearList) × (k < length years) × (slice_get years k ≡ Some x) × (get_or years k x ≡ x)) ⊎ ((length years ≤ k) × (slice_get years k ≡ None)) → (year : YearList) × (slice_get years k ≡ Some year)
  either (inl h) = (h.0, h.2)
  either (inr h) = absurd (omega (arith, h.0))

module _ (c : CalendarList) (l : ListedYears) (list : IsListOf c l) where
  -- a listed year starts after the days of those before it
  pub start_of_year-listed : (k : ℕ) → k ≤ length l.years.now → start_of_year c (l.first_year +ℤ pos k) ≡ l.first_day +ℤ pos (days_in_years (take k l.years.now))
  start_of_year-listed zero le =
      let same : l.first_year +ℤ pos 0 ≡ l.first_year = omega (arith, signed) in
      rw same (omega (arith, signed, list.first_day))
  start_of_year-listed (suc k) le =
      let year = year-listed l.years.now k (omega arith) in
      let same : l.first_year +ℤ pos (suc k) ≡ l.first_year +ℤ pos k +ℤ pos 1 = omega (arith, signed) in
      let more : suc k ≡ k + 1 = omega arith in
      rw (same, more) (omega (arith, signed, start_of_year-next c (l.first_year +ℤ pos k), start_of_year-listed k (omega arith), year_length-listed c (l.first_year +ℤ pos k) year.0.now (list.months k year.0 year.1), days_in_years-next l.years.now k year.0 year.1))

  module _ (k : ℕ) (year : YearList) (there : slice_get l.years.now k ≡ Some year) (y : ℤ) (at : y ≡ l.first_year +ℤ pos k) where
    entries-listed : c.entries y ≡ map entry_of year.now
    entries-listed = rw at (list.months k year there)

    -- the year is listed
    pub is_listed : IsListed l y
    is_listed = let lt = slice_get_within l.years.now k year there in (omega (arith, signed), omega (arith, signed))

    -- the day number of a date of it
    pub day_number-listed : (i d : ℕ) → day_number c (date y i d) ≡ l.first_day +ℤ pos (days_in_years (take k l.years.now) + days_in (take (i - 1) year.now) + (d - 1))
    day_number-listed i d =
        let lt = slice_get_within l.years.now k year there in
        let start = rw (sym at) at (start_of_year-listed k (omega arith)) in
        omega (arith, signed, start, days_before-listed c y year.now entries-listed i)

    -- a listed day is a date
    pub listed-date : (i d : ℕ) → 1 ≤ i → i ≤ length year.now → 1 ≤ d → days_in (take (i - 1) year.now) + d ≤ days_in (take i year.now) → IsDate c (date y i d)
    listed-date i d first last some within =
        let has : HasPlace c y i = (first, omega (arith, month_count-listed c y year.now entries-listed)) in
        let same : i + 1 - 1 ≡ i = omega arith in
        record {
          place = has;
          day = (some, omega (arith, days_before-next c y i has, days_before-listed c y year.now entries-listed i, rw same at (days_before-listed c y year.now entries-listed (i + 1))));
        }

    -- and a date is a listed day
    pub date-listed : (i d : ℕ) → IsDate c (date y i d) → (1 ≤ i) × (i ≤ length year.now) × (1 ≤ d) × (days_in (take (i - 1) year.now) + d ≤ days_in (take i year.now))
    date-listed i d h =
        let same : i + 1 - 1 ≡ i = omega arith in
        (h.place.0, omega (arith, h.place, month_count-listed c y year.now entries-listed), h.day.0, omega (arith, h.day, days_before-next c y i h.place, days_before-listed c y year.now entries-listed i, rw same at (days_before-listed c y year.now entries-listed (i + 1))))

  -- the dates of listed years lie in their days
  pub day_number-in_years : (t : Date) → IsListed l t.year → IsDate c t → (l.first_day ≤ℤ day_number c t) × (day_number c t <ℤ (l.first_day +ℤ pos (days_in_years l.years.now)))
  day_number-in_years t listed h =
      let k = years_up (t.year -ℤ l.first_year) in
      let at : t.year ≡ l.first_year +ℤ pos k = omega (arith, signed, listed) in
      let year = year-listed l.years.now k (omega (arith, signed, listed)) in
      let number = day_number-listed k year.0 year.1 t.year at t.month t.day in
      let parts = date-listed k year.0 year.1 t.year at t.month t.day h in
      let months = sum_by-take-le (λ (m : ListedMonth). m.days) year.0.now t.month in
      let years = sum_by-take-le (λ (x : YearList). days_in x.now) l.years.now (k + 1) in
      (omega (arith, signed, number), omega (arith, signed, number, parts, months, years, days_in_years-next l.years.now k year.0 year.1))
