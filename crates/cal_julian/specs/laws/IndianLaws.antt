-- The months and the first days of the years of the Indian list, and its bounds.
use Rattle.std.proofs.Common.{◌≡◌, ℕ, ◌-◌, ◌≤◌, Bool, true, false, if◌then◌else◌, refl, ap, arith, ℤ, pos, neg_ℤ, ◌+ℤ◌, ◌-ℤ◌, ◌≤ℤ◌, ◌<ℤ◌, unsigned_abs, inl}
use Rattle.std.specs.Prelude.{sum_by, slice_index_or}
use Rattle.cal_days.specs.Day.{IsBetween, IsCoveredYear, IsValidDay, IsFieldYear, IsRuleYear}
use Rattle.cal_days.specs.Division.{floor_div}
use Rattle.cal_days.specs.Gregorian.{gregorian_start, gregorian_year_length, leap_days_through}
use Rattle.cal_days.proofs.Signed.{signed}
use Rattle.cal_days.proofs.GregorianLemmas.{gregorian_start-bounds, gregorian_start-next}
use Rattle.cal_types.specs.CalendarList.{Date, days_of, no_entry, month_length, days_before, month_number, year_length, start_of_year, day_number, IsDate, IsValidDate, IsLawful}
use Rattle.cal_types.specs.PlainMonths.{numbered_month, HasPlainMonths}
use Rattle.cal_types.proofs.ListLemmas.{start_of_year-unique, date-in_year}
use Rattle.cal_types.proofs.MonthCases.{by_month}
use Rattle.cal_types.proofs.PlainMonthLemmas.{plain-lawful, apart-plain}
use Rattle.cal_julian.specs.IndianList.{indian_leap, indian_start, indian_months, indian_month_length, indian_days_before, indian_list}

months_at : (leap : Bool) (i : ℕ) → 1 ≤ i → i ≤ 12 → (slice_index_or (indian_months leap) (i - 1) no_entry).month ≡ numbered_month i
months_at leap = by_month (λ i. (slice_index_or (indian_months leap) (i - 1) no_entry).month ≡ numbered_month i) refl refl refl refl refl refl refl refl refl refl refl refl

lengths_within : (leap : Bool) (i : ℕ) → 1 ≤ i → i ≤ 12 → (1 ≤ indian_month_length leap i) × (indian_month_length leap i ≤ 31)
lengths_within true = by_month (λ i. (1 ≤ indian_month_length true i) × (indian_month_length true i ≤ 31)) (omega arith, omega arith) (omega arith, omega arith) (omega arith, omega arith) (omega arith, omega arith) (omega arith, omega arith) (omega arith, omega arith) (omega arith, omega arith) (omega arith, omega arith) (omega arith, omega arith) (omega arith, omega arith) (omega arith, omega arith) (omega arith, omega arith)
lengths_within false = by_month (λ i. (1 ≤ indian_month_length false i) × (indian_month_length false i ≤ 31)) (omega arith, omega arith) (omega arith, omega arith) (omega arith, omega arith) (omega arith, omega arith) (omega arith, omega arith) (omega arith, omega arith) (omega arith, omega arith) (omega arith, omega arith) (omega arith, omega arith) (omega arith, omega arith) (omega arith, omega arith) (omega arith, omega arith)

days_in_year : (leap : Bool) → sum_by days_of (indian_months leap) ≡ (if leap then 366 else 365)
days_in_year true = refl
days_in_year false = refl

pub month_length-indian : (y : ℤ) (i : ℕ) → month_length indian_list y i ≡ indian_month_length (indian_leap y) i
unfolding indian_list
month_length-indian y i = refl

pub days_before-indian : (y : ℤ) (i : ℕ) → days_before indian_list y i ≡ indian_days_before (indian_leap y) i
unfolding days_before indian_list
days_before-indian y i = refl

pub year_length-indian : (y : ℤ) → year_length indian_list y ≡ gregorian_year_length (y +ℤ pos 78)
unfolding indian_list
year_length-indian y = days_in_year (indian_leap y)

-- each year has the plain months 1 to 12
pub indian_list-plain : HasPlainMonths 12 indian_list
unfolding indian_list
indian_list-plain = record {
  number = inl refl;
  count = λ y. refl;
  months = λ y i low high. months_at (indian_leap y) i low high;
  lengths = λ y i low high. lengths_within (indian_leap y) i low high;
  kind = λ m. refl;
}

-- the list is a calendar's
pub indian_list-lawful : IsLawful indian_list
indian_list-lawful = plain-lawful 12 indian_list indian_list-plain

indian_start-anchor : indian_start indian_list.anchor_year ≡ indian_list.anchor_day
unfolding indian_list gregorian_start leap_days_through floor_div
indian_start-anchor = refl

-- the next year starts where a year ends
pub indian_start-next : (y : ℤ) → indian_start (y +ℤ pos 1) ≡ indian_start y +ℤ pos (year_length indian_list y)
indian_start-next y =
    let same : y +ℤ pos 1 +ℤ pos 78 ≡ y +ℤ pos 78 +ℤ pos 1 = omega (arith, signed) in
    omega (arith, signed, ap gregorian_start same, gregorian_start-next (y +ℤ pos 78), year_length-indian y)

-- each year of the list starts where the closed form says
pub start_of_year-indian : (y : ℤ) → start_of_year indian_list y ≡ indian_start y
start_of_year-indian y = start_of_year-unique indian_list indian_start indian_start-anchor indian_start-next y

-- a date lies between its year's start and the next
day_number-indian : (t : Date) → IsDate indian_list t → (indian_start t.year ≤ℤ day_number indian_list t) × (day_number indian_list t <ℤ indian_start (t.year +ℤ pos 1))
day_number-indian t h =
    let start = start_of_year-indian t.year in
    (omega (arith, signed, start), omega (arith, signed, start, h.day.0, date-in_year indian_list t h, indian_start-next t.year))

-- the days of rule years are far from the ends of the number types
pub day_number-near : (t : Date) → IsRuleYear t.year → IsDate indian_list t → IsBetween (neg_ℤ (pos 4000000000)) (pos 4000000000) (day_number indian_list t)
day_number-near t rule h =
    let within = day_number-indian t h in
    let low = gregorian_start-bounds (t.year +ℤ pos 78) in
    let high = gregorian_start-bounds (t.year +ℤ pos 1 +ℤ pos 78) in
    (omega (arith, signed, within.0, low, rule), omega (arith, signed, within.1, high, rule))

-- a valid day's year is one that fields may name, and is small
year_of_valid_date : (t : Date) → IsValidDate indian_list t → IsBetween (neg_ℤ (pos 1030000)) (pos 1030000) t.year
year_of_valid_date t h =
    let within = day_number-indian t h.date in
    let low = gregorian_start-bounds (t.year +ℤ pos 78) in
    let high = gregorian_start-bounds (t.year +ℤ pos 1 +ℤ pos 78) in
    (omega (arith, signed, within, high, h.valid), omega (arith, signed, within, low, h.valid))

pub years-ranged : (t : Date) → IsValidDate indian_list t → IsFieldYear t.year × IsFieldYear (t.year +ℤ pos 0)
years-ranged t h =
    let year = year_of_valid_date t h in
    ((omega (arith, signed, year), omega (arith, signed, year)), (omega (arith, signed, year), omega (arith, signed, year)))

-- the days of the years around year 1 are valid
pub days-covered : (t : Date) → IsCoveredYear t.year → IsDate indian_list t → IsValidDay (day_number indian_list t)
days-covered t year h =
    let within = day_number-indian t h in
    let low = gregorian_start-bounds (t.year +ℤ pos 78) in
    let high = gregorian_start-bounds (t.year +ℤ pos 1 +ℤ pos 78) in
    (omega (arith, signed, within.0, low, year), omega (arith, signed, within.1, high, year))

-- valid dates are at most 27040000 months apart: as many as 2080000 years of 13 months have
pub months-apart : (t u : Date) → IsValidDate indian_list t → IsValidDate indian_list u → unsigned_abs (month_number indian_list u.year u.month -ℤ month_number indian_list t.year t.month) ≤ 27040000
months-apart t u h k =
    let first = year_of_valid_date t h in
    let second = year_of_valid_date u k in
    apart-plain 12 indian_list indian_list-plain t u h.date.place k.date.place
    (omega (arith, signed, first), omega (arith, signed, first)) (omega (arith, signed, second), omega (arith, signed, second))

-- a year's stored number is its extended year
pub stored-extended : (y : ℤ) → y ≡ y +ℤ pos 0
stored-extended y = omega (arith, signed)
