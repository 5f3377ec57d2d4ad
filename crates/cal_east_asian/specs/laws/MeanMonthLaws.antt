-- The months of a mean year by the place of its leap month and a bit for each month of 30 days.
use Rattle.std.proofs.Common.{◌≡◌, ℕ, zero, suc, ◌+◌, ◌-◌, ◌*◌, ◌/◌, ◌%◌, ◌^◌, ◌<◌, ◌≤◌, true, false, nat_le, nat_lt, nat_eq, if◌then◌else◌, List, [], ◌∷◌, Option, Some, None, refl, sym, ap, subst, ◌∙◌, arith, ℤ}
use Rattle.std.specs.Prelude.{IsTrue}
use Rattle.std.proofs.lemmas.Bool.Decides.{nat_tests}
use Rattle.cal_days.proofs.Signed.{by_lt}
use Rattle.cal_types.specs.Month.{MonthParts}
use Rattle.cal_types.specs.CalendarList.{Entry, days_of}
use Rattle.cal_east_asian.specs.MeanYears.{leap_month, first_month, end_month, name_of, mean_entry, entries_from, mean_months}
use Rattle.cal_east_asian.specs.laws.MeanYearLaws.{month-days}
use Rattle.cal_east_asian.specs.laws.LeapMonthLaws.{by_leap_month}
use Rattle.cal_east_asian.specs.EastAsianYear.{is_leap_place, months_of_year}
use Rattle.cal_east_asian.specs.EastAsianMonths.{month_in_place, entries_by, year_entries}

-- a bit for each month of 30 days, the first month's lowest
abbrev pub bits : List Entry → ℕ
bits [] = 0
bits (e ∷ es) = bits es * 2 + (days_of e - 29)

-- so many months have so many bits
bits-below : (o y : ℤ) (i n : ℕ) → bits (entries_from o y i n) < 2 ^ n
bits-below o y i zero = omega arith
bits-below o y i (suc n) =
    let power : 2 ^ suc n ≡ 2 * 2 ^ n = omega arith in
    omega (arith, bits-below o y (i + 1) n, month-days o y i, power)

-- the place in the year of its leap month, or 0
abbrev pub leap_place : Option ℕ → ℕ
leap_place None = 0
leap_place (Some g) = if nat_le g 2 then 0 else g - 1

-- the months of a year with this leap place
pub place-months : (o y : ℤ) → (months_of_year (leap_place (leap_month o y)) ≡ end_month (leap_month o y) - first_month (leap_month o y)) × IsTrue (is_leap_place (leap_place (leap_month o y)))
place-months o y =
    by_leap_month {P = (months_of_year (leap_place (leap_month o y)) ≡ end_month (leap_month o y) - first_month (leap_month o y)) × IsTrue (is_leap_place (leap_place (leap_month o y)))} o y
    (λ e last two. rw e (refl, refl))
    (λ g e some le two last. rw e (let low : nat_le g 2 ≡ true = grind (arith, nat_tests) in rw low (refl, refl)))
    (λ g e ge le two last. rw e (late g ge le)) where
      late : (g : ℕ) → 3 ≤ g → g ≤ 14 → (months_of_year (leap_place (Some g)) ≡ 15 - first_month (Some g)) × IsTrue (is_leap_place (leap_place (Some g)))
      late g ge le =
          let low : nat_le g 2 ≡ false = grind (arith, nat_tests) in
          let some : nat_eq (g - 1) 0 ≡ false = grind (arith, nat_tests) in
          let from : nat_le 2 (g - 1) ≡ true = grind (arith, nat_tests) in
          let to : nat_le (g - 1) 13 ≡ true = grind (arith, nat_tests) in
          rw (low, some, from, to) (refl, refl)

-- and no more bits than months
pub mean_months-few : (o y : ℤ) → bits (mean_months o y) < 2 ^ months_of_year (leap_place (leap_month o y))
unfolding mean_months
mean_months-few o y =
    let g = leap_month o y in
    let n = end_month g - first_month g in
    subst (λ (m : ℕ). bits (entries_from o y (first_month g) n) < 2 ^ m) (sym (place-months o y).0) (bits-below o y (first_month g) n)

-- a month's name by its place in the year
name-none : (j : ℕ) → name_of None (2 + j) ≡ month_in_place 0 (j + 1)
name-none j =
    let plain : nat_eq (j + 1) 0 ≡ false = grind (arith, nat_tests) in
    let number : 2 + j - 1 ≡ j + 1 = omega arith in
    rw (plain, number) refl

name-early : (g j : ℕ) → g ≤ 2 → name_of (Some g) (3 + j) ≡ month_in_place 0 (j + 1)
name-early g j le =
    let after : nat_lt (3 + j) g ≡ false = grind (arith, nat_tests) in
    let other : nat_eq (3 + j) g ≡ false = grind (arith, nat_tests) in
    let plain : nat_eq (j + 1) 0 ≡ false = grind (arith, nat_tests) in
    let number : 3 + j - 2 ≡ j + 1 = omega arith in
    rw (after, other, plain, number) refl

name-before : (g j : ℕ) → 3 ≤ g → 2 + j < g → name_of (Some g) (2 + j) ≡ month_in_place (g - 1) (j + 1)
name-before g j ge lt =
    let before : nat_lt (2 + j) g ≡ true = grind (arith, nat_tests) in
    let other : nat_eq (2 + j) g ≡ false = grind (arith, nat_tests) in
    let earlier : nat_lt (j + 1) (g - 1) ≡ true = grind (arith, nat_tests) in
    let plain : nat_eq (j + 1) (g - 1) ≡ false = grind (arith, nat_tests) in
    let leap : nat_eq (g - 1) 0 ≡ false = grind (arith, nat_tests) in
    let number : 2 + j - 1 ≡ j + 1 = omega arith in
    rw (before, other, earlier, plain, leap, number) refl

name-here : (g j : ℕ) → 3 ≤ g → 2 + j ≡ g → name_of (Some g) (2 + j) ≡ month_in_place (g - 1) (j + 1)
name-here g j ge e =
    let after : nat_lt (2 + j) g ≡ false = grind (arith, nat_tests) in
    let later : nat_lt (j + 1) (g - 1) ≡ false = grind (arith, nat_tests) in
    let here : nat_eq (2 + j) g ≡ true = grind (arith, nat_tests) in
    let there : nat_eq (j + 1) (g - 1) ≡ true = grind (arith, nat_tests) in
    let leap : nat_eq (g - 1) 0 ≡ false = grind (arith, nat_tests) in
    let number : 2 + j - 2 ≡ j + 1 - 1 = omega arith in
    rw (after, later, here, there, leap, number) refl

name-after : (g j : ℕ) → 3 ≤ g → g < 2 + j → name_of (Some g) (2 + j) ≡ month_in_place (g - 1) (j + 1)
name-after g j ge lt =
    let after : nat_lt (2 + j) g ≡ false = grind (arith, nat_tests) in
    let later : nat_lt (j + 1) (g - 1) ≡ false = grind (arith, nat_tests) in
    let other : nat_eq (2 + j) g ≡ false = grind (arith, nat_tests) in
    let plain : nat_eq (j + 1) (g - 1) ≡ false = grind (arith, nat_tests) in
    let leap : nat_eq (g - 1) 0 ≡ false = grind (arith, nat_tests) in
    let number : 2 + j - 2 ≡ j + 1 - 1 = omega arith in
    rw (after, later, other, plain, leap, number) refl

name-late : (g j : ℕ) → 3 ≤ g → name_of (Some g) (2 + j) ≡ month_in_place (g - 1) (j + 1)
name-late g j ge =
    by_lt {P = name_of (Some g) (2 + j) ≡ month_in_place (g - 1) (j + 1)} (2 + j) g (name-before g j ge) (λ le.
    by_lt {P = name_of (Some g) (2 + j) ≡ month_in_place (g - 1) (j + 1)} g (2 + j) (name-after g j ge) (λ same. name-here g j ge (omega arith)))

name-place : (o y : ℤ) (j : ℕ) → name_of (leap_month o y) (first_month (leap_month o y) + j) ≡ month_in_place (leap_place (leap_month o y)) (j + 1)
name-place o y j =
    by_leap_month {P = name_of (leap_month o y) (first_month (leap_month o y) + j) ≡ month_in_place (leap_place (leap_month o y)) (j + 1)} o y
    (λ e last two. rw e (name-none j))
    (λ g e some le two last. rw e (let low : nat_le g 2 ≡ true = grind (arith, nat_tests) in rw low (name-early g j le)))
    (λ g e ge le two last. rw e (let low : nat_le g 2 ≡ false = grind (arith, nat_tests) in rw low (name-late g j ge)))

abbrev entry : MonthParts → ℕ → Entry
entry m d = record { month = m; days = d }

cons-entry : (m n : MonthParts) (d e : ℕ) (es fs : List Entry) → m ≡ n → d ≡ e → es ≡ fs → entry m d ∷ es ≡ entry n e ∷ fs
cons-entry m n d e es fs a b c = rw (a, b, c) refl

-- the lengths come back from the bits
entries-place : (o y : ℤ) (j n : ℕ) → entries_from o y (first_month (leap_month o y) + j) n ≡ entries_by (leap_place (leap_month o y)) (j + 1) n (bits (entries_from o y (first_month (leap_month o y) + j) n))
entries-place o y j zero = refl
entries-place o y j (suc n) =
    let g = leap_month o y in
    let k = first_month g + j in
    let d = (mean_entry o y k).days in
    let rest = entries_from o y (k + 1) n in
    let next : first_month g + (j + 1) ≡ k + 1 = omega arith in
    let lengths : d ≡ 29 + (bits rest * 2 + (d - 29)) % 2 = omega (arith, month-days o y k) in
    let half : bits rest ≡ (bits rest * 2 + (d - 29)) / 2 = omega (arith, month-days o y k) in
    cons-entry (name_of g k) (month_in_place (leap_place g) (j + 1)) d (29 + (bits rest * 2 + (d - 29)) % 2) rest (entries_by (leap_place g) (j + 1 + 1) n ((bits rest * 2 + (d - 29)) / 2))
    (name-place o y j) lengths
    (subst (λ (m : ℕ). entries_from o y m n ≡ entries_by (leap_place g) (j + 1 + 1) n (bits (entries_from o y m n))) next (entries-place o y (j + 1) n) ∙ ap (entries_by (leap_place g) (j + 1 + 1) n) half)

-- the months of a mean year are those that its leap place and its bits tell
pub mean_months-parts : (o y : ℤ) → year_entries (leap_place (leap_month o y)) (bits (mean_months o y)) ≡ mean_months o y
unfolding mean_months
mean_months-parts o y =
    let g = leap_month o y in
    let first : first_month g + 0 ≡ first_month g = omega arith in
    let n = end_month g - first_month g in
    let all = subst (λ (m : ℕ). entries_from o y m n ≡ entries_by (leap_place g) 1 n (bits (entries_from o y m n))) first (entries-place o y 0 n) in
    ap (λ (m : ℕ). entries_by (leap_place g) 1 m (bits (entries_from o y (first_month g) n))) (place-months o y).0 ∙ sym all
