-- What holds of the small calendar: its months, its days, and what a calendar is asked for.
use Rattle.std.proofs.Common.{◌≡◌, ℕ, zero, suc, ◌+◌, ◌-◌, ◌*◌, ◌/◌, ◌%◌, ◌≤◌, Bool, true, false, Some, Ok, Err, refl, sym, ap, ◌∙◌, arith, unsigned_abs, ℤ, pos, neg_ℤ, ◌+ℤ◌, ◌-ℤ◌, ◌*ℤ◌, ◌≤ℤ◌, ◌<ℤ◌}
use Rattle.std.proofs.lemmas.Bool.Decides.{nat_tests}
use Rattle.cal_days.specs.Day.{IsBetween, IsFieldYear, IsRuleYear, IsValidDay, IsCoveredYear}
use Rattle.cal_days.specs.Sums.{total}
use Rattle.cal_days.proofs.Signed.{signed, by_years}
use Rattle.cal_days.proofs.SumLemmas.{span-same}
use Rattle.cal_types.specs.Month.{MonthParts, month_rank}
use Rattle.cal_types.specs.declared.options.Overflow.{Overflow}
use Rattle.cal_errors.specs.declared.errors.MonthError.TheVariants.{NotInCalendar}
use Rattle.cal_types.specs.declared.options.Overflow.TheVariants.{Constrain}
use Rattle.cal_types.specs.CalendarList.{Date, IsDate, IsLawful, IsValidDate, day_number, days_before, month_at, month_count, month_length, month_number, place_of, spot, start_of_year, year_length}
use Rattle.cal_arith.specs.Places.{ordinal_month}
use Rattle.cal_types.proofs.MonthCases.{by_month}
use Rattle.cal_types.proofs.YearNameLemmas.{reference_of_known-kind}
use Rattle.cal_errors.specs.declared.errors.EcmaReferenceYearError.TheVariants.{MonthNotInCalendar}
use Rattle.std.specs.Prelude.{◌↔◌}
use Rattle.cal_types.proofs.ListLemmas.{date-in_year, month_number-next, month_number-place, spot-own, start_of_year-unique}
use Rattle.arith_tests.specs.AlternatingMonths.{is_plain, alternating, alternating_names}

-- each year has twelve months
pub month_count-alternating : (y : ℤ) → month_count alternating y ≡ 12
unfolding alternating
month_count-alternating y = refl

-- the month in a place has its number
pub month_at-alternating : (y : ℤ) (i : ℕ) → 1 ≤ i → i ≤ 12 → month_at alternating y i ≡ record { number = i; is_leap = false }
unfolding alternating
month_at-alternating y = by_month (λ n. month_at alternating y n ≡ record { number = n; is_leap = false }) refl refl refl refl refl refl refl refl refl refl refl refl

-- months of an odd number have 30 days, and the others 29
pub month_length-alternating : (y : ℤ) (i : ℕ) → 1 ≤ i → i ≤ 12 → month_length alternating y i ≡ 29 + i % 2
unfolding alternating
month_length-alternating y = by_month (λ i. month_length alternating y i ≡ 29 + i % 2) refl refl refl refl refl refl refl refl refl refl refl refl

-- so a day more than 29 for each odd month goes before a month
pub days_before-alternating : (y : ℤ) (i : ℕ) → 1 ≤ i → i ≤ 12 → days_before alternating y i ≡ 29 * (i - 1) + i / 2
unfolding alternating days_before
days_before-alternating y = by_month (λ i. days_before alternating y i ≡ 29 * (i - 1) + i / 2) refl refl refl refl refl refl refl refl refl refl refl refl

-- each year has 354 days
pub year_length-alternating : (y : ℤ) → year_length alternating y ≡ 354
unfolding alternating
year_length-alternating y = refl

-- years start every 354 days
pub start_of_year-alternating : (y : ℤ) → start_of_year alternating y ≡ pos 354 *ℤ (y -ℤ pos 1) +ℤ pos 1
unfolding alternating
start_of_year-alternating y = start_of_year-unique alternating (λ z. pos 354 *ℤ (z -ℤ pos 1) +ℤ pos 1) refl (λ z. omega (arith, signed)) y

place_of-alternating : (y : ℤ) (n : ℕ) → 1 ≤ n → n ≤ 12 → place_of alternating y (record { number = n; is_leap = false }) ≡ Some n
unfolding place_of alternating
place_of-alternating y = by_month (λ n. place_of alternating y (record { number = n; is_leap = false }) ≡ Some n) refl refl refl refl refl refl refl refl refl refl refl refl

is_of_kind-alternating : (m : MonthParts) → alternating.is_of_kind m ≡ is_plain m
unfolding alternating
is_of_kind-alternating m = refl

plain_is : (m : MonthParts) → is_plain m ≡ true → (1 ≤ m.number) × (m.number ≤ 12) × (m ≡ record { number = m.number; is_leap = false })
plain_is m h =
    let not_leap : m.is_leap ≡ false = grind (arith, nat_tests) in
    (grind (arith, nat_tests), grind (arith, nat_tests), ap (λ (b : Bool). or_leap b) not_leap) where
      or_leap : Bool → MonthParts
      or_leap b = record { number = m.number; is_leap = b }

true-plain : (n : ℕ) → 1 ≤ n → n ≤ 12 → is_plain (record { number = n; is_leap = false }) ≡ true
true-plain n low high = grind (arith, nat_tests)

spot-alternating : (y : ℤ) (m : MonthParts) (o : Overflow) → is_plain m ≡ true → spot alternating y m o ≡ Some m.number
spot-alternating y m o h =
    let known = plain_is m h in
    spot-own alternating y m o m.number (ap (place_of alternating y) known.2 ∙ place_of-alternating y m.number known.0 known.1)

-- a month is found in the place of its number
pub ordinal_month-alternating : (y : ℤ) (m : MonthParts) (o : Overflow) → is_plain m ≡ true → ordinal_month alternating y m o ≡ Ok m.number
ordinal_month-alternating y m o h =
    let kind : alternating.is_of_kind m ≡ true = is_of_kind-alternating m ∙ h in
    let found = spot-alternating y m o h in
    rw (kind, found) refl

-- and another is none of the calendar
pub ordinal_month-none : (y : ℤ) (m : MonthParts) (o : Overflow) → is_plain m ≡ false → ordinal_month alternating y m o ≡ Err NotInCalendar
ordinal_month-none y m o h =
    let kind : alternating.is_of_kind m ≡ false = is_of_kind-alternating m ∙ h in
    rw kind refl

pub alternating-lawful : IsLawful alternating
alternating-lawful = record {
  count = λ y. omega (arith, month_count-alternating y);
  lengths = λ y i h. let most : i ≤ 12 = omega (arith, h, month_count-alternating y) in let length = month_length-alternating y i h.0 most in (omega (arith, length), omega (arith, length));
  rises = λ y i j h k lt. omega (arith, ap month_rank (month_at-alternating y i h.0 (omega (arith, h, month_count-alternating y))), ap month_rank (month_at-alternating y j k.0 (omega (arith, k, month_count-alternating y))));
  kind = λ y i h. let most : i ≤ 12 = omega (arith, h, month_count-alternating y) in ap alternating.is_of_kind (month_at-alternating y i h.0 most) ∙ (is_of_kind-alternating (record { number = i; is_leap = false }) ∙ true-plain i h.0 most);
  stands = λ y m h. (m.number, spot-alternating y m Constrain (sym (is_of_kind-alternating m) ∙ h));
}

-- the months of some years
pub total-alternating : (y : ℤ) (n : ℕ) → total (month_count alternating) y n ≡ 12 * n
unfolding total
total-alternating y zero = refl
total-alternating y (suc n) = omega (arith, total-alternating y n, month_count-alternating (y +ℤ pos n))

-- a day lies in its year
in_year : (t : Date) → IsDate alternating t → (start_of_year alternating t.year ≤ℤ day_number alternating t) × (day_number alternating t <ℤ (start_of_year alternating t.year +ℤ pos 354))
in_year t h =
    let within = date-in_year alternating t h in
    let length = year_length-alternating t.year in
    (omega (arith, signed), omega (arith, signed, within, length, h.day))

pub alternating-near : (t : Date) → IsRuleYear t.year → IsDate alternating t → IsBetween (neg_ℤ (pos 4000000000)) (pos 4000000000) (day_number alternating t)
alternating-near t y h =
    let year = in_year t h in let start = start_of_year-alternating t.year in
    (omega (arith, signed, year, start, y), omega (arith, signed, year, start, y))

-- the years of valid days
years-few : (t : Date) → IsValidDate alternating t → IsBetween (neg_ℤ (pos 1031760)) (pos 1031760) t.year
years-few t h =
    let year = in_year t h.date in let start = start_of_year-alternating t.year in let valid = h.valid in
    (omega (arith, signed, year, start, valid), omega (arith, signed, year, start, valid))

pub alternating-ranged : (t : Date) → IsValidDate alternating t → IsFieldYear t.year × IsFieldYear (t.year +ℤ pos 0)
alternating-ranged t h = let few = years-few t h in ((omega (arith, signed, few), omega (arith, signed, few)), (omega (arith, signed, few), omega (arith, signed, few)))

month_number-anchor : month_number alternating (pos 1) 1 ≡ pos 12 *ℤ (pos 1 -ℤ pos 1)
unfolding month_number alternating
month_number-anchor = omega (arith, signed, span-same (month_count alternating) (pos 1))

month_number-first : (y : ℤ) → month_number alternating y 1 ≡ pos 12 *ℤ (y -ℤ pos 1)
month_number-first =
    by_years (λ y. month_number alternating y 1 ≡ pos 12 *ℤ (y -ℤ pos 1)) (pos 1)
    month_number-anchor
    (λ y h. omega (arith, signed, month_number-next alternating y, month_count-alternating y, h))
    (λ y h. omega (arith, signed, month_number-next alternating y, month_count-alternating y, h))

pub alternating-apart : (t u : Date) → IsValidDate alternating t → IsValidDate alternating u → unsigned_abs (month_number alternating u.year u.month -ℤ month_number alternating t.year t.month) ≤ 27040000
alternating-apart t u h k =
    let first = years-few t h in let last = years-few u k in
    let from = month_number-place alternating t.year t.month h.date.place.0 in let to = month_number-place alternating u.year u.month k.date.place.0 in
    omega (arith, signed, first, last, from, to, month_number-first t.year, month_number-first u.year, h.date.place, k.date.place, month_count-alternating t.year, month_count-alternating u.year)

pub alternating-covered : (t : Date) → IsCoveredYear t.year → IsDate alternating t → IsValidDay (day_number alternating t)
alternating-covered t y h =
    let year = in_year t h in let start = start_of_year-alternating t.year in
    (omega (arith, signed, year, start, y), omega (arith, signed, year, start, y))

pub alternating_reference-kind : (m : MonthParts) (d : ℕ) → (alternating_names.reference m d ≡ Err MonthNotInCalendar) ↔ (alternating.is_of_kind m ≡ false)
unfolding alternating
alternating_reference-kind m d = reference_of_known-kind (is_plain m) (pos 1)
