-- The years of rules start where the list says, and the bounds of the list's days and months.
use Rattle.std.proofs.Common.{◌≡◌, ℕ, zero, suc, ◌+◌, ◌*◌, ◌/◌, ◌≤◌, ◌||◌, not, IsTrue, refl, sym, ap, subst, ◌∙◌, arith, ℤ, pos, neg_ℤ, ◌+ℤ◌, ◌-ℤ◌, ◌≤ℤ◌, ◌<ℤ◌, unsigned_abs}
use Rattle.std.specs.Prelude.{sum_by, nat_eq}
use Rattle.std.proofs.lemmas.Int.{by_lt_z}
use Rattle.std.proofs.lemmas.Bool.Decides.{nat_tests}
use Rattle.cal_days.specs.Day.{IsBetween, IsValidDay, IsFieldYear, IsRuleYear, IsCoveredYear}
use Rattle.cal_days.specs.Gregorian.{gregorian_start}
use Rattle.cal_days.specs.Sums.{years_up, total, span}
use Rattle.cal_days.proofs.GregorianLemmas.{gregorian_start-bounds}
use Rattle.cal_days.proofs.Signed.{signed}
use Rattle.cal_days.proofs.SumLemmas.{span-same, span-up, span-down}
use Rattle.cal_types.specs.CalendarList.{Date, month_count, month_number, days_of, start_of_year, year_length, day_number, IsDate, IsValidDate}
use Rattle.cal_types.proofs.ListLemmas.{date-in_year, start_of_year-later, start_of_year-next, year_length-most}
use Rattle.cal_east_asian.specs.EastAsianYear.{IsNewYear, months_of_year}
use Rattle.cal_east_asian.specs.EastAsianYears.{AreYears, leap_in_three, parts_of}
use Rattle.cal_east_asian.specs.laws.RuleYearLaws.{rule_year-same}
use Rattle.cal_east_asian.specs.EastAsianList.{east_asian_list, entries_of}
use Rattle.cal_east_asian.specs.laws.EastAsianListLaws.{east_asian_list-lawful, month_count-east_asian, count-small}
use Rattle.cal_east_asian.specs.declared.east_asian_traditional_year.EastAsianTraditionalYear.{EastAsianTraditionalYear}

pub stored-extended : (y : ℤ) → y ≡ y +ℤ pos 0
stored-extended y = omega (arith, signed)

-- n years have from 12 n to 13 n months
pub total-between : (year_of : ℤ → EastAsianTraditionalYear) (y : ℤ) (n : ℕ) → (12 * n ≤ total (month_count (east_asian_list year_of)) y n) × (total (month_count (east_asian_list year_of)) y n ≤ 13 * n)
unfolding total
total-between year_of y zero = (omega arith, omega arith)
total-between year_of y (suc n) = (omega (arith, total-between year_of y n, count-small year_of (y +ℤ pos n)), omega (arith, total-between year_of y n, count-small year_of (y +ℤ pos n)))

-- at most 13 months for each year from year 1
months-before : (year_of : ℤ → EastAsianTraditionalYear) (y : ℤ) → IsBetween (neg_ℤ (pos 1000100)) (pos 1000100) y → IsBetween (neg_ℤ (pos 13002000)) (pos 13002000) (span (month_count (east_asian_list year_of)) (pos 1) y)
months-before year_of y within =
    by_lt_z {P = IsBetween (neg_ℤ (pos 13002000)) (pos 13002000) (span (month_count (east_asian_list year_of)) (pos 1) y)} y (pos 1)
    (λ lt.
    let n = years_up (pos 1 -ℤ y) in
    let is : pos 1 ≡ y +ℤ pos n = omega (arith, signed) in
    let sum = span-down (month_count (east_asian_list year_of)) (pos 1) y n is in
    let most = total-between year_of y n in
    (omega (arith, signed, sum, most, is, within), omega (arith, signed, sum, most, is, within)))
    (λ le.
    let n = years_up (y -ℤ pos 1) in
    let is : y ≡ pos 1 +ℤ pos n = omega (arith, signed) in
    let sum = span-up (month_count (east_asian_list year_of)) (pos 1) y n is in
    let most = total-between year_of (pos 1) n in
    (omega (arith, signed, sum, most, is, within), omega (arith, signed, sum, most, is, within)))

month_number-near : (year_of : ℤ → EastAsianTraditionalYear) (y : ℤ) (i : ℕ) → IsBetween (neg_ℤ (pos 1000100)) (pos 1000100) y → 1 ≤ i → i ≤ 13 → IsBetween (neg_ℤ (pos 13002000)) (pos 13002012) (month_number (east_asian_list year_of) y i)
unfolding month_number east_asian_list
month_number-near year_of y i within low high =
    let before = months-before year_of y within in
    (omega (arith, signed, before), omega (arith, signed, before))

module _ (year_of : ℤ → EastAsianTraditionalYear) (law : AreYears year_of) where
  pub length-rule : (y : ℤ) → IsRuleYear y → year_length (east_asian_list year_of) y ≡ sum_by days_of (entries_of (year_of y))
  unfolding east_asian_list
  length-rule y rule = ap (λ (z : ℤ). sum_by days_of (entries_of (year_of z))) (rule_year-same y rule)

  anchor : start_of_year (east_asian_list year_of) (pos 1) ≡ (year_of (pos 1)).new_year
  unfolding start_of_year east_asian_list
  anchor = omega (arith, signed, span-same (year_length (east_asian_list year_of)) (pos 1))

  abbrev Starts : ℤ → Type 0
  Starts y = start_of_year (east_asian_list year_of) y ≡ (year_of y).new_year

  step-up : (z y : ℤ) → z +ℤ pos 1 ≡ y → IsRuleYear z → IsRuleYear y → Starts z → Starts y
  step-up z y e here there known =
      subst Starts e (omega (arith, signed, start_of_year-next (east_asian_list year_of) z, length-rule z here, law.joins z here (subst IsRuleYear (sym e) there), known))

  up : (n : ℕ) → n + 1 ≤ 8000000 → (y : ℤ) → y ≡ pos 1 +ℤ pos n → Starts y
  up zero h y e =
      let one : pos 1 ≡ y = omega (arith, signed) in
      subst Starts one anchor
  up (suc n) h y e =
      let same : y -ℤ pos 1 +ℤ pos 1 ≡ y = omega (arith, signed) in
      step-up (y -ℤ pos 1) y same (omega (arith, signed), omega (arith, signed)) (omega (arith, signed), omega (arith, signed)) (up n (omega arith) (y -ℤ pos 1) (omega (arith, signed)))

  step-down : (y z : ℤ) → y +ℤ pos 1 ≡ z → IsRuleYear y → IsRuleYear z → Starts z → Starts y
  step-down y z e here there known =
      let later = subst Starts (sym e) known in
      omega (arith, signed, start_of_year-next (east_asian_list year_of) y, length-rule y here, law.joins y here (subst IsRuleYear (sym e) there), later)

  down : (n : ℕ) → n ≤ 8000001 → (y : ℤ) → y +ℤ pos n ≡ pos 1 → Starts y
  down zero h y e =
      let one : pos 1 ≡ y = omega (arith, signed) in
      subst Starts one anchor
  down (suc n) h y e =
      step-down y (y +ℤ pos 1) refl (omega (arith, signed), omega (arith, signed)) (omega (arith, signed), omega (arith, signed)) (down n (omega arith) (y +ℤ pos 1) (omega (arith, signed)))

  -- a year of the rules starts where the list says
  pub start-rule : (y : ℤ) → IsRuleYear y → start_of_year (east_asian_list year_of) y ≡ (year_of y).new_year
  start-rule y rule =
      by_lt_z {P = Starts y} y (pos 1)
      (λ lt. down (years_up (pos 1 -ℤ y)) (omega (arith, signed)) y (omega (arith, signed)))
      (λ le. up (years_up (y -ℤ pos 1)) (omega (arith, signed)) y (omega (arith, signed)))

  -- which is 0 to 34 days after January 19 of its number
  pub new_year-near : (y : ℤ) → IsRuleYear y → IsNewYear y (year_of y).new_year
  new_year-near y rule = subst (λ (x : ℤ). IsNewYear x (year_of y).new_year) (law.numbered y rule) (year_of y).valid.1.0

  pub start-near : (y : ℤ) → IsRuleYear y → ((gregorian_start y +ℤ pos 18) ≤ℤ start_of_year (east_asian_list year_of) y) × (start_of_year (east_asian_list year_of) y ≤ℤ (gregorian_start y +ℤ pos 52))
  start-near y rule =
      let near = new_year-near y rule in
      let start = start-rule y rule in
      (omega (arith, signed, near, start), omega (arith, signed, near, start))

  day-bounds : (t : Date) → IsDate (east_asian_list year_of) t → (start_of_year (east_asian_list year_of) t.year ≤ℤ day_number (east_asian_list year_of) t) × (day_number (east_asian_list year_of) t <ℤ (start_of_year (east_asian_list year_of) t.year +ℤ pos (year_length (east_asian_list year_of) t.year)))
  day-bounds t h =
      let within = date-in_year (east_asian_list year_of) t h in
      (omega (arith, signed), omega (arith, signed, within, h.day))

  pub day_number-near : (t : Date) → IsRuleYear t.year → IsDate (east_asian_list year_of) t → IsBetween (neg_ℤ (pos 4000000000)) (pos 4000000000) (day_number (east_asian_list year_of) t)
  day_number-near t rule h =
      let within = day-bounds t h in
      let start = start-near t.year rule in
      let first = gregorian_start-bounds t.year in
      let length = year_length-most (east_asian_list year_of) t.year (east_asian_list-lawful year_of) in
      (omega (arith, signed, within, start, first, length, rule), omega (arith, signed, within, start, first, length, rule))

  not-later : (t : Date) → IsValidDate (east_asian_list year_of) t → t.year ≤ℤ pos 1000100
  not-later t h =
      by_lt_z {P = t.year ≤ℤ pos 1000100} (pos 1000100) t.year
      (λ lt. absurd (omega (arith, signed, day-bounds t h.date, h.valid, start_of_year-later (east_asian_list year_of) (pos 1000100) t.year lt, start-near (pos 1000100) (omega (arith, signed), omega (arith, signed)), gregorian_start-bounds (pos 1000100))))
      (λ le. le)

  not-earlier : (t : Date) → IsValidDate (east_asian_list year_of) t → neg_ℤ (pos 1000100) ≤ℤ t.year
  not-earlier t h =
      by_lt_z {P = neg_ℤ (pos 1000100) ≤ℤ t.year} t.year (neg_ℤ (pos 1000100))
      (λ lt. absurd (omega (arith, signed, day-bounds t h.date, h.valid, start_of_year-later (east_asian_list year_of) t.year (neg_ℤ (pos 1000100)) lt, start-near (neg_ℤ (pos 1000100)) (omega (arith, signed), omega (arith, signed)), gregorian_start-bounds (neg_ℤ (pos 1000100)))))
      (λ le. le)

  pub years-ranged : (t : Date) → IsValidDate (east_asian_list year_of) t → IsFieldYear t.year × IsFieldYear (t.year +ℤ pos 0)
  years-ranged t h =
      let low = not-earlier t h in
      let high = not-later t h in
      ((omega (arith, signed, low), omega (arith, signed, high)), (omega (arith, signed, low, high), omega (arith, signed, low, high)))

  pub days-covered : (t : Date) → IsCoveredYear t.year → IsDate (east_asian_list year_of) t → IsValidDay (day_number (east_asian_list year_of) t)
  days-covered t year h =
      let within = day-bounds t h in
      let start = start-near t.year (omega (arith, signed, year), omega (arith, signed, year)) in
      let first = gregorian_start-bounds t.year in
      let length = year_length-most (east_asian_list year_of) t.year (east_asian_list-lawful year_of) in
      (omega (arith, signed, within, start, first, length, year), omega (arith, signed, within, start, first, length, year))

  pub months-apart : (t u : Date) → IsValidDate (east_asian_list year_of) t → IsValidDate (east_asian_list year_of) u → unsigned_abs (month_number (east_asian_list year_of) u.year u.month -ℤ month_number (east_asian_list year_of) t.year t.month) ≤ 27040000
  months-apart t u h k =
      let first = month_number-near year_of t.year t.month (not-earlier t h, not-later t h) h.date.place.0 (omega (arith, h.date.place.1, count-small year_of t.year)) in
      let second = month_number-near year_of u.year u.month (not-earlier u k, not-later u k) k.date.place.0 (omega (arith, k.date.place.1, count-small year_of u.year)) in
      omega (arith, signed, first, second)

  pub count-rule : (y : ℤ) → IsRuleYear y → month_count (east_asian_list year_of) y ≡ months_of_year (year_of y).leap_month
  count-rule y rule = month_count-east_asian year_of y ∙ ap (λ (z : ℤ). months_of_year (year_of z).leap_month) (rule_year-same y rule)

  one_of_three : (p q r : ℕ) → IsTrue (not (nat_eq p 0) || (not (nat_eq q 0) || not (nat_eq r 0))) → 37 ≤ months_of_year p + months_of_year q + months_of_year r
  one_of_three p q r h = grind (arith, nat_tests)

  -- three years in a row have 37 months or more
  three : (y : ℤ) → IsRuleYear y → IsRuleYear (y +ℤ pos 2) → 37 ≤ month_count (east_asian_list year_of) y + month_count (east_asian_list year_of) (y +ℤ pos 1) + month_count (east_asian_list year_of) (y +ℤ pos 2)
  three y first last =
      let between : IsRuleYear (y +ℤ pos 1) = (omega (arith, signed, first, last), omega (arith, signed, first, last)) in
      let back_2 : y +ℤ pos 2 -ℤ pos 2 ≡ y = omega (arith, signed) in
      let back_1 : y +ℤ pos 2 -ℤ pos 1 ≡ y +ℤ pos 1 = omega (arith, signed) in
      let leaps : IsTrue (leap_in_three (λ z. parts_of (year_of z)) (y +ℤ pos 2)) = law.leaps (y +ℤ pos 2) (subst IsRuleYear (sym back_2) first) last in
      let met = rw (back_2, back_1) at leaps in
      let most = one_of_three (year_of (y +ℤ pos 2)).leap_month (year_of (y +ℤ pos 1)).leap_month (year_of y).leap_month met in
      omega (arith, most, count-rule y first, count-rule (y +ℤ pos 1) between, count-rule (y +ℤ pos 2) last)

  -- k years have 12 k months, and one more in each three
  pub total-least : (y : ℤ) (k : ℕ) → neg_ℤ (pos 8000000) ≤ℤ y → (y +ℤ pos k) ≤ℤ pos 8000001 → 12 * k + k / 3 ≤ total (month_count (east_asian_list year_of)) y k
  unfolding total
  total-least y zero low high = omega arith
  total-least y (suc zero) low high = omega (arith, total-between year_of y 1)
  total-least y (suc (suc zero)) low high = omega (arith, total-between year_of y 2)
  total-least y (suc (suc (suc k))) low high =
      let known = total-least y k low (omega (arith, signed)) in
      let e1 : y +ℤ pos (suc k) ≡ y +ℤ pos k +ℤ pos 1 = omega (arith, signed) in
      let e2 : y +ℤ pos (suc (suc k)) ≡ y +ℤ pos k +ℤ pos 2 = omega (arith, signed) in
      let more = three (y +ℤ pos k) (omega (arith, signed), omega (arith, signed)) (omega (arith, signed), omega (arith, signed)) in
      rw (e1, e2) (omega (arith, known, more))
