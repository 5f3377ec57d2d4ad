-- The months and the first days of the years of the Coptic list, and its bounds.
use Rattle.std.proofs.Common.{◌≡◌, ℕ, ◌+◌, ◌-◌, ◌*◌, ◌/◌, ◌%◌, ◌<◌, ◌≤◌, Bool, true, false, if◌then◌else◌, refl, sym, ap, subst, ◌∙◌, arith, ℤ, pos, neg_ℤ, ◌+ℤ◌, ◌≤ℤ◌, ◌<ℤ◌, inr}
use Rattle.std.specs.Prelude.{take, sum_by, slice_index_or}
use Rattle.cal_days.specs.Day.{IsBetween, IsCoveredYear, IsValidDay, IsFieldYear, IsRuleYear}
use Rattle.cal_days.specs.Division.{floor_div}
use Rattle.cal_days.specs.Coptic.{coptic_leap, coptic_start, coptic_year_length}
use Rattle.cal_days.proofs.Signed.{signed, by_lt}
use Rattle.cal_days.proofs.CopticLemmas.{coptic_start-next, coptic_start-bounds, coptic_year_of_valid_day}
use Rattle.cal_types.specs.CalendarList.{Date, date, days_of, no_entry, month_length, days_before, year_length, start_of_year, day_number, HasPlace, IsDate, IsValidDate, IsLawful, IsOn}
use Rattle.cal_types.specs.PlainMonths.{numbered_month, HasPlainMonths}
use Rattle.cal_types.specs.RenumberedBounds.{IsBounded}
use Rattle.cal_types.proofs.ListLemmas.{start_of_year-unique, date-in_year, on-rest}
use Rattle.cal_types.proofs.MonthCases.{by_month, by_thirteen}
use Rattle.cal_types.proofs.PlainMonthLemmas.{plain-lawful, apart-plain}
use Rattle.cal_coptic.specs.CopticList.{coptic_months, coptic_month_length, coptic_list}

months_at : (leap : Bool) (i : ℕ) → 1 ≤ i → i ≤ 13 → (slice_index_or (coptic_months leap) (i - 1) no_entry).month ≡ numbered_month i
months_at leap = by_thirteen (λ i. (slice_index_or (coptic_months leap) (i - 1) no_entry).month ≡ numbered_month i) refl refl refl refl refl refl refl refl refl refl refl refl refl

-- all months but the last have 30 days
pub coptic_month_length-twelve : (leap : Bool) (i : ℕ) → 1 ≤ i → i ≤ 12 → coptic_month_length leap i ≡ 30
coptic_month_length-twelve leap = by_month (λ i. coptic_month_length leap i ≡ 30) refl refl refl refl refl refl refl refl refl refl refl refl

lengths_within : (leap : Bool) (i : ℕ) → 1 ≤ i → i ≤ 13 → (1 ≤ coptic_month_length leap i) × (coptic_month_length leap i ≤ 31)
lengths_within true = by_thirteen (λ i. (1 ≤ coptic_month_length true i) × (coptic_month_length true i ≤ 31)) (omega arith, omega arith) (omega arith, omega arith) (omega arith, omega arith) (omega arith, omega arith) (omega arith, omega arith) (omega arith, omega arith) (omega arith, omega arith) (omega arith, omega arith) (omega arith, omega arith) (omega arith, omega arith) (omega arith, omega arith) (omega arith, omega arith) (omega arith, omega arith)
lengths_within false = by_thirteen (λ i. (1 ≤ coptic_month_length false i) × (coptic_month_length false i ≤ 31)) (omega arith, omega arith) (omega arith, omega arith) (omega arith, omega arith) (omega arith, omega arith) (omega arith, omega arith) (omega arith, omega arith) (omega arith, omega arith) (omega arith, omega arith) (omega arith, omega arith) (omega arith, omega arith) (omega arith, omega arith) (omega arith, omega arith) (omega arith, omega arith)

days_in_months : (leap : Bool) (i : ℕ) → 1 ≤ i → i ≤ 13 → sum_by days_of (take (i - 1) (coptic_months leap)) ≡ 30 * (i - 1)
days_in_months leap = by_thirteen (λ i. sum_by days_of (take (i - 1) (coptic_months leap)) ≡ 30 * (i - 1)) refl refl refl refl refl refl refl refl refl refl refl refl refl

days_in_year : (leap : Bool) → sum_by days_of (coptic_months leap) ≡ (if leap then 366 else 365)
days_in_year true = refl
days_in_year false = refl

pub month_length-coptic : (y : ℤ) (i : ℕ) → month_length coptic_list y i ≡ coptic_month_length (coptic_leap y) i
unfolding coptic_list
month_length-coptic y i = refl

-- the months before a month have 30 days each
pub days_before-coptic : (y : ℤ) (i : ℕ) → 1 ≤ i → i ≤ 13 → days_before coptic_list y i ≡ 30 * (i - 1)
unfolding days_before coptic_list
days_before-coptic y i low high = days_in_months (coptic_leap y) i low high

pub year_length-coptic : (y : ℤ) → year_length coptic_list y ≡ coptic_year_length y
unfolding coptic_list
year_length-coptic y = days_in_year (coptic_leap y)

-- each year has the plain months 1 to 13
pub coptic_list-plain : HasPlainMonths 13 coptic_list
unfolding coptic_list
coptic_list-plain = record {
  number = inr refl;
  count = λ y. refl;
  months = λ y i low high. months_at (coptic_leap y) i low high;
  lengths = λ y i low high. lengths_within (coptic_leap y) i low high;
  kind = λ m. refl;
}

-- the list is a calendar's
pub coptic_list-lawful : IsLawful coptic_list
coptic_list-lawful = plain-lawful 13 coptic_list coptic_list-plain

coptic_start-anchor : coptic_start coptic_list.anchor_year ≡ coptic_list.anchor_day
unfolding coptic_list coptic_start floor_div
coptic_start-anchor = refl

-- each year of the list starts where the closed form says
pub start_of_year-coptic : (y : ℤ) → start_of_year coptic_list y ≡ coptic_start y
start_of_year-coptic y =
    start_of_year-unique coptic_list coptic_start coptic_start-anchor
    (λ z. coptic_start-next z ∙ ap (λ (n : ℕ). coptic_start z +ℤ pos n) (sym (year_length-coptic z))) y

-- a date lies between its year's start and the next
day_number-coptic : (t : Date) → IsDate coptic_list t → (coptic_start t.year ≤ℤ day_number coptic_list t) × (day_number coptic_list t <ℤ coptic_start (t.year +ℤ pos 1))
day_number-coptic t h =
    let start = start_of_year-coptic t.year in
    (omega (arith, signed, start), omega (arith, signed, start, h.day.0, date-in_year coptic_list t h, year_length-coptic t.year, coptic_start-next t.year))

-- the Coptic year of a valid day
pub coptic_year-valid : (t : Date) → IsValidDate coptic_list t → IsBetween (neg_ℤ (pos 1000263)) (pos 999695) t.year
coptic_year-valid t h = let within = day_number-coptic t h.date in coptic_year_of_valid_day (day_number coptic_list t) t.year h.valid within.0 within.1

-- the bounds of the list, from which those of the calendars follow that count its years from a year of their own
pub coptic_list-bounded : IsBounded coptic_list
coptic_list-bounded = record {
  near = λ t year h.
      let within = day_number-coptic t h in
      let low = coptic_start-bounds t.year in
      let high = coptic_start-bounds (t.year +ℤ pos 1) in
      (omega (arith, signed, within.0, low), omega (arith, signed, within.1, high));
  ranged = λ t h. let year = coptic_year-valid t h in (omega (arith, signed, year), omega (arith, signed, year));
  apart = λ t u h k.
      let first = coptic_year-valid t h in
      let second = coptic_year-valid u k in
      apart-plain 13 coptic_list coptic_list-plain t u h.date.place k.date.place
      (omega (arith, signed, first), omega (arith, signed, first)) (omega (arith, signed, second), omega (arith, signed, second));
  covered = λ t year h.
      let within = day_number-coptic t h in
      let low = coptic_start-bounds t.year in
      let high = coptic_start-bounds (t.year +ℤ pos 1) in
      (omega (arith, signed, within.0, low), omega (arith, signed, within.1, high));
}

-- the same bounds, as a calendar's own
pub day_number-near : (t : Date) → IsRuleYear t.year → IsDate coptic_list t → IsBetween (neg_ℤ (pos 4000000000)) (pos 4000000000) (day_number coptic_list t)
day_number-near t rule h = coptic_list-bounded.near t (omega (arith, signed, rule), omega (arith, signed, rule)) h

pub years-ranged : (t : Date) → IsValidDate coptic_list t → IsFieldYear t.year × IsFieldYear (t.year +ℤ pos 0)
years-ranged t h =
    let year = coptic_year-valid t h in
    ((omega (arith, signed, year), omega (arith, signed, year)), (omega (arith, signed, year), omega (arith, signed, year)))

pub days-covered : (t : Date) → IsCoveredYear t.year → IsDate coptic_list t → IsValidDay (day_number coptic_list t)
days-covered t year h = coptic_list-bounded.covered t (omega (arith, signed, year), omega (arith, signed, year)) h

-- a year's stored number is its extended year
pub stored-extended : (y : ℤ) → y ≡ y +ℤ pos 0
stored-extended y = omega (arith, signed)

-- a day of a year, counted from 0, lies in its month, 30 days a month
rest_within : (leap : Bool) (p : ℕ) → p < (if leap then 366 else 365) → p % 30 < coptic_month_length leap (p / 30 + 1)
rest_within leap p h =
    by_lt {P = p % 30 < coptic_month_length leap (p / 30 + 1)} p 360
    (λ lt. omega (arith, coptic_month_length-twelve leap (p / 30 + 1) (omega arith) (omega arith)))
    (λ le. last_days leap h le) where
      last_days : (b : Bool) → p < (if b then 366 else 365) → 360 ≤ p → p % 30 < coptic_month_length b (p / 30 + 1)
      last_days true lt le = let place : p / 30 + 1 ≡ 13 = omega arith in rw place (omega arith)
      last_days false lt le = let place : p / 30 + 1 ≡ 13 = omega arith in rw place (omega arith)

most_days : (leap : Bool) → (if leap then 366 else 365) ≤ 366
most_days true = omega arith
most_days false = omega arith

pub year_length-most : (y : ℤ) → year_length coptic_list y ≤ 366
year_length-most y = omega (arith, year_length-coptic y, most_days (coptic_leap y))

pub day_found : (y : ℤ) (p month day : ℕ) → p < year_length coptic_list y → month ≡ p / 30 + 1 → day ≡ p % 30 + 1 → IsOn coptic_list (start_of_year coptic_list y +ℤ pos p) (date y month day)
day_found y p month day h is_month is_day =
    let small : p < 366 = omega (arith, h, year_length-most y) in
    let place : HasPlace coptic_list y (p / 30 + 1) = (omega arith, omega (arith, small, coptic_list-plain.count y)) in
    let before = days_before-coptic y (p / 30 + 1) (omega arith) (omega (arith, small)) in
    let number : start_of_year coptic_list y +ℤ pos (days_before coptic_list y (p / 30 + 1) + p % 30) ≡ start_of_year coptic_list y +ℤ pos p = omega (arith, signed, before) in
    let rest : p % 30 < month_length coptic_list y (p / 30 + 1) = omega (arith, month_length-coptic y (p / 30 + 1), rest_within (coptic_leap y) p (omega (arith, h, year_length-coptic y))) in
    subst (λ (m : ℕ). IsOn coptic_list (start_of_year coptic_list y +ℤ pos p) (date y m day)) (sym is_month)
    (subst (λ (d : ℕ). IsOn coptic_list (start_of_year coptic_list y +ℤ pos p) (date y (p / 30 + 1) d)) (sym is_day)
    (on-rest coptic_list y (p / 30 + 1) (p % 30) (start_of_year coptic_list y +ℤ pos p) place number rest))
