-- Months of a mean year: their number and lengths, and that neighbours join.
use Rattle.std.proofs.Common.{◌≡◌, ℕ, zero, suc, ◌+◌, ◌-◌, ◌<◌, ◌≤◌, ◌⊎◌, inl, inr, true, false, length, sum_by, get_or, nat_le, refl, ap, ◌∙◌, arith, ℤ, pos, ◌+ℤ◌, ◌≤ℤ◌}
use Rattle.std.proofs.lemmas.Int.{by_lt_z}
use Rattle.std.proofs.lemmas.Bool.Decides.{nat_tests}
use Rattle.std.proofs.lemmas.List.Sums.{sum_by-cons}
use Rattle.cal_days.specs.Division.{floor_div}
use Rattle.cal_types.specs.CalendarList.{no_entry, days_of}
use Rattle.cal_days.proofs.Signed.{signed}
use Rattle.cal_east_asian.specs.MeanYears.{day, moon, term, last_moon, solstice_moon, month_start, lacks_term, leap_month, first_month, end_month, mean_entry, entries_from, mean_months, new_year, first_moon, month_total, AreMonths}
use Rattle.cal_east_asian.specs.laws.MoonLaws.{moon-later, day-near, day-later, day-month, moon-more, term-more, term-next_year, last_moon-within, last_moon-most}
use Rattle.cal_east_asian.specs.laws.LeapMonthLaws.{nth_moon, nth_moon-next, by_leap_month, first_month-is, end_month-is, new_year-next}

-- months have 29 or 30 days
pub month_start-next : (o y : ℤ) (i : ℕ) → ((month_start o y i +ℤ pos 29) ≤ℤ month_start o y (i + 1)) × (month_start o y (i + 1) ≤ℤ (month_start o y i +ℤ pos 30))
unfolding month_start
month_start-next o y i = day-month (nth_moon o y i) (nth_moon o y (i + 1)) (nth_moon-next o y i 1)

pub month-days : (o y : ℤ) (i : ℕ) → (29 ≤ (mean_entry o y i).days) × ((mean_entry o y i).days ≤ 30) × (month_start o y (i + 1) ≡ month_start o y i +ℤ pos (mean_entry o y i).days)
month-days o y i = omega (arith, signed, month_start-next o y i)

-- the entries, one by one
pub entries-count : (o y : ℤ) (i n : ℕ) → length (entries_from o y i n) ≡ n
entries-count o y i zero = refl
entries-count o y i (suc n) = ap suc (entries-count o y (i + 1) n)

pub entries-at : (o y : ℤ) (i n j : ℕ) → j < n → get_or (entries_from o y i n) j no_entry ≡ mean_entry o y (i + j)
entries-at o y i zero j h = absurd (omega arith)
entries-at o y i (suc n) zero h = let same : i + 0 ≡ i = omega arith in rw same refl
entries-at o y i (suc n) (suc j) h = let same : i + suc j ≡ i + 1 + j = omega arith in rw same (entries-at o y (i + 1) n j (omega arith))

pub entries-days : (o y : ℤ) (i n : ℕ) → month_start o y (i + n) ≡ month_start o y i +ℤ pos (sum_by days_of (entries_from o y i n))
entries-days o y i zero = let same : i + 0 ≡ i = omega arith in rw same (omega (arith, signed))
entries-days o y i (suc n) =
    let same : i + suc n ≡ i + 1 + n = omega arith in
    let sum : sum_by days_of (entries_from o y i (suc n)) ≡ (mean_entry o y i).days + sum_by days_of (entries_from o y (i + 1) n) = sum_by-cons days_of (mean_entry o y i) (entries_from o y (i + 1) n) in
    rw same (omega (arith, signed, sum, entries-days o y (i + 1) n, month-days o y i))

-- 13 months where the leap month is 3 to 14, and else 12
pub count-cases : (o y : ℤ) → (end_month (leap_month o y) ≡ first_month (leap_month o y) + 12) ⊎ ((end_month (leap_month o y) ≡ first_month (leap_month o y) + 13))
count-cases o y =
    by_leap_month {P = (end_month (leap_month o y) ≡ first_month (leap_month o y) + 12) ⊎ ((end_month (leap_month o y) ≡ first_month (leap_month o y) + 13))} o y
    (λ e last two. rw e (inl refl))
    (λ g e some le two last. rw e (let low : nat_le g 2 ≡ true = grind (arith, nat_tests) in rw low (inl refl)))
    (λ g e ge le two last. rw e (let low : nat_le g 2 ≡ false = grind (arith, nat_tests) in rw low (inr refl)))

pub months-count : (o y : ℤ) → (length (mean_months o y) ≡ 12) ⊎ (length (mean_months o y) ≡ 13)
unfolding mean_months
months-count o y = grind (arith, count-cases o y, entries-count o y (first_month (leap_month o y)) (end_month (leap_month o y) - first_month (leap_month o y)))

-- NEIGHBOURS JOIN: a year's months, laid end to end from its new year, reach the next one's
pub years-join : (o y : ℤ) → new_year o (y +ℤ pos 1) ≡ new_year o y +ℤ pos (sum_by days_of (mean_months o y))
unfolding mean_months new_year
years-join o y =
    let g = leap_month o y in
    let all : first_month g + (end_month g - first_month g) ≡ end_month g = grind (arith, count-cases o y) in
    unfold new_year in (new_year-next o y ∙ rw all at (entries-days o y (first_month g) (end_month g - first_month g)))

-- three years in a row have 37 months or more
pub last_moon-three : (o y : ℤ) → (last_moon o (day (term o y 2)) +ℤ pos 37) ≤ℤ last_moon o (day (term o y (2 + 36)))
last_moon-three o y =
    let k = last_moon o (day (term o y 2)) in
    let e = last_moon o (day (term o y (2 + 36))) in
    by_lt_z {P = (k +ℤ pos 37) ≤ℤ e} e (k +ℤ pos 37) (λ lt.
    absurd (omega (
      arith,
      signed,
      day-near (moon o k) (term o y 2) (last_moon-within o (day (term o y 2))),
      day-later (moon o (e +ℤ pos 1)) (term o y (2 + 36)) (last_moon-most o (day (term o y (2 + 36)))),
      term-more o y 2 36,
      moon-later o (e +ℤ pos 1) (k +ℤ pos 37) (omega (arith, signed)),
      moon-more o k (k +ℤ pos 37) 37 refl,
    ))) (λ le. le)

-- the years' months are counted by last moons
pub months-between : (o y : ℤ) → last_moon o (day (term o y 14)) ≡ last_moon o (day (term o y 2)) +ℤ pos (length (mean_months o y))
unfolding mean_months
months-between o y =
    let g = leap_month o y in
    let all : first_month g + (end_month g - first_month g) ≡ end_month g = grind (arith, count-cases o y) in
    omega (arith, signed, all, first_month-is o y, end_month-is o y, entries-count o y (first_month g) (end_month g - first_month g))

-- of three years in a row one has a leap month
pub three-years : (o y : ℤ) → 37 ≤ length (mean_months o y) + length (mean_months o (y +ℤ pos 1)) + length (mean_months o (y +ℤ pos 2))
three-years o y =
    let two : y +ℤ pos 1 +ℤ pos 1 ≡ y +ℤ pos 2 = omega (arith, signed) in
    let t1 = ap (λ t. last_moon o (day t)) (term-next_year o y 2) in
    let t2 = ap (λ t. last_moon o (day t)) (rw two at (term-next_year o (y +ℤ pos 1) 2)) in
    let t3 = ap (λ t. last_moon o (day t)) (term-more o (y +ℤ pos 2) 2 12) in
    let t4 : last_moon o (day (term o (y +ℤ pos 2) 14)) ≡ last_moon o (day (term o y 38)) = ap (λ t. last_moon o (day t)) (far two) in
    omega (arith, signed, months-between o y, months-between o (y +ℤ pos 1), months-between o (y +ℤ pos 2), t1, t2, t4, last_moon-three o y) where
      far : (y +ℤ pos 1 +ℤ pos 1 ≡ y +ℤ pos 2) → term o (y +ℤ pos 2) 14 ≡ term o y 38
      far two = omega (arith, signed, rw two at (term-next_year o (y +ℤ pos 1) 14), term-next_year o y (14 + 12))

-- Chinese 1912 begins on 1912-02-18
pub anchor : new_year (pos 28800000) (pos 1912) ≡ pos 698026
unfolding new_year month_start solstice_moon last_moon leap_month lacks_term moon term floor_div
anchor = refl

-- the moon that a year begins with, and how many moons later the next year begins
pub first_moon-is : (o y : ℤ) → first_moon o y ≡ last_moon o (day (term o y 2))
unfolding first_moon
first_moon-is o y = first_month-is o y

pub first_moon-next : (o y : ℤ) → first_moon o (y +ℤ pos 1) ≡ first_moon o y +ℤ pos (month_total o y)
first_moon-next o y = omega (arith, signed, first_moon-is o (y +ℤ pos 1), first_moon-is o y, months-between o y, ap (λ t. last_moon o (day t)) (term-next_year o y 2))

pub months-are : (o y : ℤ) → AreMonths (mean_months o y)
unfolding mean_months
months-are o y =
    let f = first_month (leap_month o y) in
    let n = end_month (leap_month o y) - f in
    record {
      count = months-count o y;
      lengths = λ i lt.
          let within : i < n = omega (arith, lt, entries-count o y f n) in
          let entry = entries-at o y f n i within in
          let days = month-days o y (f + i) in
          rw entry (days.0, days.1);
    }
