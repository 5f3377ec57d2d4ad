-- The bounds of the Hebrew list, and the months between its years.
use Rattle.std.proofs.Common.{◌≡◌, ℕ, zero, suc, ◌*◌, ◌≤◌, refl, sym, ap, ◌∙◌, arith, ℤ, pos, neg_ℤ, ◌+ℤ◌, ◌-ℤ◌, ◌*ℤ◌, ◌≤ℤ◌, ◌<ℤ◌, unsigned_abs}
use Rattle.cal_days.specs.Day.{IsBetween, IsValidDay, IsFieldYear, IsRuleYear, IsCoveredYear}
use Rattle.cal_days.specs.Division.{floor_div}
use Rattle.cal_days.specs.Hebrew.{months_before, hebrew_start}
use Rattle.cal_days.specs.Sums.{total}
use Rattle.cal_days.proofs.Signed.{signed}
use Rattle.cal_days.proofs.DivisionLemmas.{floor_parts}
use Rattle.cal_days.proofs.SumLemmas.{span-unique}
use Rattle.cal_days.proofs.HebrewLemmas.{hebrew_start-bounds, hebrew_start-next, hebrew_year_of_valid_day, months_before-next}
use Rattle.cal_types.specs.CalendarList.{Date, month_count, month_number, day_number, IsDate, IsValidDate}
use Rattle.cal_types.proofs.ListLemmas.{date-in_year}
use Rattle.cal_hebrew.specs.HebrewList.{hebrew_list}
use Rattle.cal_hebrew.specs.laws.HebrewMonths.{hebrew_list-lawful, month_count-leap, place-small, start_of_year-hebrew, year_length-hebrew}

-- a date lies between its year's start and the next
day_number-hebrew : (t : Date) → IsDate hebrew_list t → (hebrew_start t.year ≤ℤ day_number hebrew_list t) × (day_number hebrew_list t <ℤ hebrew_start (t.year +ℤ pos 1))
day_number-hebrew t h =
    let start = start_of_year-hebrew t.year in
    (omega (arith, signed, start), omega (arith, signed, start, h.day.0, date-in_year hebrew_list t h, year_length-hebrew t.year, hebrew_start-next t.year))

-- the days of rule years are far from the ends of the number types
pub day_number-near : (t : Date) → IsRuleYear t.year → IsDate hebrew_list t → IsBetween (neg_ℤ (pos 4000000000)) (pos 4000000000) (day_number hebrew_list t)
day_number-near t rule h =
    let within = day_number-hebrew t h in
    let low = hebrew_start-bounds t.year in
    let high = hebrew_start-bounds (t.year +ℤ pos 1) in
    (omega (arith, signed, within.0, low, rule), omega (arith, signed, within.1, high, rule))

-- the years of valid days
year_of_valid_date : (t : Date) → IsValidDate hebrew_list t → IsBetween (neg_ℤ (pos 996300)) (pos 1003800) t.year
year_of_valid_date t h =
    let within = day_number-hebrew t h.date in
    hebrew_year_of_valid_day (day_number hebrew_list t) t.year h.valid within.0 within.1

pub years-ranged : (t : Date) → IsValidDate hebrew_list t → IsFieldYear t.year × IsFieldYear (t.year +ℤ pos 0)
years-ranged t h =
    let year = year_of_valid_date t h in
    ((omega (arith, signed, year), omega (arith, signed, year)), (omega (arith, signed, year), omega (arith, signed, year)))

-- the days of the years around year 1 are valid
pub days-covered : (t : Date) → IsCoveredYear t.year → IsDate hebrew_list t → IsValidDay (day_number hebrew_list t)
days-covered t year h =
    let within = day_number-hebrew t h in
    let low = hebrew_start-bounds t.year in
    let high = hebrew_start-bounds (t.year +ℤ pos 1) in
    (omega (arith, signed, within.0, low, year), omega (arith, signed, within.1, high, year))

anchor_months : months_before hebrew_list.anchor_year ≡ pos 0
unfolding hebrew_list months_before floor_div
anchor_months = refl

-- the months before a year are counted from year 1
pub month_number-hebrew : (y : ℤ) (i : ℕ) → 1 ≤ i → month_number hebrew_list y i +ℤ pos 1 ≡ months_before y +ℤ pos i
unfolding month_number
month_number-hebrew y i h =
    let months = span-unique (month_count hebrew_list) hebrew_list.anchor_year months_before (λ z. months_before-next z ∙ ap (λ (n : ℕ). months_before z +ℤ pos n) (sym (month_count-leap z))) y in
    omega (arith, signed, months, anchor_months)

-- 19 times the months before a year are 235 times the years before it, and 1 more, less at most 18
pub months_before-bounds : (y : ℤ) → ((pos 19 *ℤ months_before y) ≤ℤ (pos 235 *ℤ y -ℤ pos 234)) × ((pos 235 *ℤ y -ℤ pos 252) ≤ℤ (pos 19 *ℤ months_before y))
unfolding months_before
months_before-bounds y =
    let parts = floor_parts (pos 235 *ℤ y -ℤ pos 234) 19 (omega arith) in
    (omega (arith, signed, parts), omega (arith, signed, parts))

-- a later year has no fewer months before it
pub months_before-rises : (y z : ℤ) → y ≤ℤ z → months_before y ≤ℤ months_before z
unfolding months_before
months_before-rises y z h =
    omega (arith, signed, floor_parts (pos 235 *ℤ y -ℤ pos 234) 19 (omega arith), floor_parts (pos 235 *ℤ z -ℤ pos 234) 19 (omega arith))

-- valid dates are at most 27040000 months apart: as many as 2080000 years of 13 months have
pub months-apart : (t u : Date) → IsValidDate hebrew_list t → IsValidDate hebrew_list u → unsigned_abs (month_number hebrew_list u.year u.month -ℤ month_number hebrew_list t.year t.month) ≤ 27040000
months-apart t u h k =
    let first = year_of_valid_date t h in
    let second = year_of_valid_date u k in
    omega (arith, signed, first, second, place-small t.year t.month h.date.place, place-small u.year u.month k.date.place, month_number-hebrew t.year t.month h.date.place.0, month_number-hebrew u.year u.month k.date.place.0, months_before-bounds t.year, months_before-bounds u.year)

-- k years have at least 12 k months
pub total-least : (y : ℤ) (k : ℕ) → 12 * k ≤ total (month_count hebrew_list) y k
unfolding total
total-least y zero = omega arith
total-least y (suc k) = omega (arith, total-least y k, hebrew_list-lawful.count (y +ℤ pos k))

-- a year's stored number is its extended year
pub stored-extended : (y : ℤ) → y ≡ y +ℤ pos 0
stored-extended y = omega (arith, signed)
