-- The years 1900 to 1911 start near January 19, join, and have a leap month in any three years.
use Rattle.std.proofs.Common.{◌≡◌, ℕ, ◌+◌, ◌*◌, ◌/◌, ◌≤◌, ◌⊎◌, inl, inr, true, refl, subst, arith, ℤ, pos, ◌+ℤ◌, ◌≤ℤ◌}
use Rattle.std.specs.Prelude.{unsigned_abs, slice_get, Some, ◌-ℤ◌}
use Rattle.cal_days.specs.Day.{IsRuleYear}
use Rattle.cal_days.specs.Division.{floor_div}
use Rattle.cal_days.specs.Gregorian.{gregorian_start, leap_days_through}
use Rattle.cal_days.proofs.Signed.{signed}
use Rattle.cal_types.proofs.MonthCases.{by_month}
use Rattle.cal_east_asian.specs.EastAsianYear.{IsNewYear, months_of_year}
use Rattle.cal_east_asian.specs.EastAsianYears.{HasValidParts, end_of, has_leap}
use Rattle.cal_east_asian.specs.QingYears.{IsQingNumber, qing_rows, qing_parts, row_by_parts}

-- what holds of each year from 1900 to 1911
pub by_qing : (P : ℤ → Type 0) → P (pos 1900) → P (pos 1901) → P (pos 1902) → P (pos 1903) → P (pos 1904) → P (pos 1905) → P (pos 1906) → P (pos 1907) → P (pos 1908) → P (pos 1909) → P (pos 1910) → P (pos 1911) → (y : ℤ) → IsQingNumber y → P y
by_qing P a b c d e f g h j k l m y in_rows =
    let i = unsigned_abs (y -ℤ pos 1899) in
    let same : pos (1899 + i) ≡ y = omega (arith, signed) in
    subst P same (by_month (λ n. P (pos (1899 + n))) a b c d e f g h j k l m i (omega (arith, signed)) (omega (arith, signed)))

near : (y g d : ℕ) → gregorian_start (pos y) ≡ pos g → (g + 18 ≤ d) × (d ≤ g + 52) → y ≤ 2000 → IsRuleYear (pos y) × IsNewYear (pos y) (pos d)
near y g d start between year = ((omega (arith, signed), omega (arith, signed)), (omega (arith, signed, start), omega (arith, signed, start)))

abbrev IsQing : ℤ → Type 0
IsQing y = HasValidParts y (qing_parts y)

pub qing-valid : (y : ℤ) → IsQingNumber y → HasValidParts y (qing_parts y)
unfolding gregorian_start leap_days_through floor_div
qing-valid = by_qing IsQing
    (let f = near 1900 693596 693626 refl (omega arith, omega arith) (omega arith) in ((f.0, (f.1, refl)), omega arith))
    (let f = near 1901 693961 694010 refl (omega arith, omega arith) (omega arith) in ((f.0, (f.1, refl)), omega arith))
    (let f = near 1902 694326 694364 refl (omega arith, omega arith) (omega arith) in ((f.0, (f.1, refl)), omega arith))
    (let f = near 1903 694691 694719 refl (omega arith, omega arith) (omega arith) in ((f.0, (f.1, refl)), omega arith))
    (let f = near 1904 695056 695102 refl (omega arith, omega arith) (omega arith) in ((f.0, (f.1, refl)), omega arith))
    (let f = near 1905 695422 695456 refl (omega arith, omega arith) (omega arith) in ((f.0, (f.1, refl)), omega arith))
    (let f = near 1906 695787 695811 refl (omega arith, omega arith) (omega arith) in ((f.0, (f.1, refl)), omega arith))
    (let f = near 1907 696152 696195 refl (omega arith, omega arith) (omega arith) in ((f.0, (f.1, refl)), omega arith))
    (let f = near 1908 696517 696549 refl (omega arith, omega arith) (omega arith) in ((f.0, (f.1, refl)), omega arith))
    (let f = near 1909 696883 696904 refl (omega arith, omega arith) (omega arith) in ((f.0, (f.1, refl)), omega arith))
    (let f = near 1910 697248 697288 refl (omega arith, omega arith) (omega arith) in ((f.0, (f.1, refl)), omega arith))
    (let f = near 1911 697613 697642 refl (omega arith, omega arith) (omega arith) in ((f.0, (f.1, refl)), omega arith))

-- each ends where the next one begins
pub qing-joins : (y : ℤ) → IsQingNumber y → IsQingNumber (y +ℤ pos 1) → (qing_parts (y +ℤ pos 1)).new_year ≡ end_of (qing_parts y)
qing-joins y here next = by_qing (λ z. z ≤ℤ pos 1910 → (qing_parts (z +ℤ pos 1)).new_year ≡ end_of (qing_parts z)) (λ h. refl) (λ h. refl) (λ h. refl) (λ h. refl) (λ h. refl) (λ h. refl) (λ h. refl) (λ h. refl) (λ h. refl) (λ h. refl) (λ h. refl) (λ h. absurd (omega (arith, signed))) y here (omega (arith, signed))

pub qing-end : end_of (qing_parts (pos 1911)) ≡ pos 698026
qing-end = refl

-- a year from 1900 to 1911 has a leap month, or one of the two before it
pub qing-leaps : (y : ℤ) → IsQingNumber y → (has_leap (qing_parts y) ≡ true) ⊎ (((pos 1901 ≤ℤ y) × (has_leap (qing_parts (y -ℤ pos 1)) ≡ true)) ⊎ ((pos 1902 ≤ℤ y) × (has_leap (qing_parts (y -ℤ pos 2)) ≡ true)))
qing-leaps = by_qing (λ y. (has_leap (qing_parts y) ≡ true) ⊎ (((pos 1901 ≤ℤ y) × (has_leap (qing_parts (y -ℤ pos 1)) ≡ true)) ⊎ ((pos 1902 ≤ℤ y) × (has_leap (qing_parts (y -ℤ pos 2)) ≡ true))))
    (inl refl)
    (inr (inl (omega (arith, signed), refl)))
    (inr (inr (omega (arith, signed), refl)))
    (inl refl)
    (inr (inl (omega (arith, signed), refl)))
    (inr (inr (omega (arith, signed), refl)))
    (inl refl)
    (inr (inl (omega (arith, signed), refl)))
    (inr (inr (omega (arith, signed), refl)))
    (inl refl)
    (inr (inl (omega (arith, signed), refl)))
    (inl refl)

-- how many months the years from 1900 on have before a year: every third of them has a leap month
abbrev pub qing_months_before : ℤ → ℕ
qing_months_before y = let n = unsigned_abs (y -ℤ pos 1900) in 12 * n + (n + 2) / 3

pub qing-months : (y : ℤ) → IsQingNumber y → IsQingNumber (y +ℤ pos 1) → qing_months_before (y +ℤ pos 1) ≡ qing_months_before y + months_of_year (qing_parts y).leap_month
qing-months y here next = by_qing (λ z. z ≤ℤ pos 1910 → qing_months_before (z +ℤ pos 1) ≡ qing_months_before z + months_of_year (qing_parts z).leap_month) (λ h. refl) (λ h. refl) (λ h. refl) (λ h. refl) (λ h. refl) (λ h. refl) (λ h. refl) (λ h. refl) (λ h. refl) (λ h. refl) (λ h. refl) (λ h. absurd (omega (arith, signed))) y here (omega (arith, signed))

-- the parts tell the row
pub qing-row : (y : ℤ) → IsQingNumber y → slice_get qing_rows (unsigned_abs (y -ℤ pos 1900)) ≡ Some (row_by_parts (qing_parts y))
qing-row = by_qing (λ y. slice_get qing_rows (unsigned_abs (y -ℤ pos 1900)) ≡ Some (row_by_parts (qing_parts y))) refl refl refl refl refl refl refl refl refl refl refl refl
