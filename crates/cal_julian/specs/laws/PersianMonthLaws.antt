-- The months of a Persian year in closed form.
use Rattle.std.proofs.Common.{◌≡◌, ℕ, ◌+◌, ◌-◌, ◌*◌, ◌<◌, ◌≤◌, Bool, true, false, not, if◌then◌else◌, sum_by, min, refl, arith}
use Rattle.std.specs.Prelude.{◌&&◌, ◌==◌, slice_index_or, nat_le}
use Rattle.std.proofs.lemmas.Bool.Decides.{nat_tests}
use Rattle.cal_types.specs.CalendarList.{days_of, no_entry}
use Rattle.cal_types.specs.PlainMonths.{numbered_month}
use Rattle.cal_types.proofs.MonthCases.{by_month}
use Rattle.cal_julian.specs.PersianList.{persian_months, persian_month_length, persian_days_before}
use Rattle.cal_julian.specs.PersianMonths.{month_of_day}

-- the days before a month, in closed form
pub days_before-closed : (leap : Bool) (i : ℕ) → 1 ≤ i → i ≤ 12 → persian_days_before leap i ≡ 30 * (i - 1) + min (i - 1) 6
days_before-closed leap =
    by_month (λ i. persian_days_before leap i ≡ 30 * (i - 1) + min (i - 1) 6)
    refl refl refl refl refl refl refl refl refl refl refl refl

-- and in its two parts, which agree on month 7
pub days_before-long : (leap : Bool) (i : ℕ) → 1 ≤ i → i ≤ 7 → persian_days_before leap i ≡ 31 * (i - 1)
days_before-long leap i low high = omega (arith, days_before-closed leap i low (omega arith))

pub days_before-short : (leap : Bool) (i : ℕ) → 7 ≤ i → i ≤ 12 → persian_days_before leap i ≡ 30 * (i - 1) + 6
days_before-short leap i low high = omega (arith, days_before-closed leap i (omega arith) high)

-- of which only the last depends on the year
pub month_length-others : (leap : Bool) (i : ℕ) → 1 ≤ i → i ≤ 11 → persian_month_length leap i ≡ persian_month_length true i
month_length-others leap i low high =
    by_month (λ i. i ≤ 11 → persian_month_length leap i ≡ persian_month_length true i)
    (λ h. refl) (λ h. refl) (λ h. refl) (λ h. refl) (λ h. refl) (λ h. refl) (λ h. refl) (λ h. refl) (λ h. refl) (λ h. refl) (λ h. refl) (λ h. absurd (omega arith)) i low (omega arith) high

pub persian_month_length-within : (leap : Bool) (i : ℕ) → 1 ≤ i → i ≤ 12 → (1 ≤ persian_month_length leap i) × (persian_month_length leap i ≤ 31)
persian_month_length-within true = by_month (λ i. (1 ≤ persian_month_length true i) × (persian_month_length true i ≤ 31)) (omega arith, omega arith) (omega arith, omega arith) (omega arith, omega arith) (omega arith, omega arith) (omega arith, omega arith) (omega arith, omega arith) (omega arith, omega arith) (omega arith, omega arith) (omega arith, omega arith) (omega arith, omega arith) (omega arith, omega arith) (omega arith, omega arith)
persian_month_length-within false = by_month (λ i. (1 ≤ persian_month_length false i) × (persian_month_length false i ≤ 31)) (omega arith, omega arith) (omega arith, omega arith) (omega arith, omega arith) (omega arith, omega arith) (omega arith, omega arith) (omega arith, omega arith) (omega arith, omega arith) (omega arith, omega arith) (omega arith, omega arith) (omega arith, omega arith) (omega arith, omega arith) (omega arith, omega arith)

pub persian_month-at : (leap : Bool) (i : ℕ) → 1 ≤ i → i ≤ 12 → (slice_index_or (persian_months leap) (i - 1) no_entry).month ≡ numbered_month i
persian_month-at leap =
    by_month (λ i. (slice_index_or (persian_months leap) (i - 1) no_entry).month ≡ numbered_month i)
    refl refl refl refl refl refl refl refl refl refl refl refl

pub persian_days : (leap : Bool) → sum_by days_of (persian_months leap) ≡ (if leap then 366 else 365)
persian_days true = refl
persian_days false = refl

abbrev pub IsInMonth : Bool → ℕ → ℕ → Type 0
IsInMonth leap r p = (persian_days_before leap r ≤ p) × (p < persian_days_before leap r + persian_month_length leap r)

abbrev Finds : Bool → ℕ → ℕ → Type 0
Finds leap p r = p < (if leap then 366 else 365) → r ≡ month_of_day p → IsInMonth leap r p

found_true : (p r : ℕ) → 1 ≤ r → r ≤ 12 → Finds true p r
found_true p = by_month (Finds true p)
    (λ h e. (grind (arith, nat_tests), grind (arith, nat_tests)))
    (λ h e. (grind (arith, nat_tests), grind (arith, nat_tests)))
    (λ h e. (grind (arith, nat_tests), grind (arith, nat_tests)))
    (λ h e. (grind (arith, nat_tests), grind (arith, nat_tests)))
    (λ h e. (grind (arith, nat_tests), grind (arith, nat_tests)))
    (λ h e. (grind (arith, nat_tests), grind (arith, nat_tests)))
    (λ h e. (grind (arith, nat_tests), grind (arith, nat_tests)))
    (λ h e. (grind (arith, nat_tests), grind (arith, nat_tests)))
    (λ h e. (grind (arith, nat_tests), grind (arith, nat_tests)))
    (λ h e. (grind (arith, nat_tests), grind (arith, nat_tests)))
    (λ h e. (grind (arith, nat_tests), grind (arith, nat_tests)))
    (λ h e. (grind (arith, nat_tests), grind (arith, nat_tests)))

found_false : (p r : ℕ) → 1 ≤ r → r ≤ 12 → Finds false p r
found_false p = by_month (Finds false p)
    (λ h e. (grind (arith, nat_tests), grind (arith, nat_tests)))
    (λ h e. (grind (arith, nat_tests), grind (arith, nat_tests)))
    (λ h e. (grind (arith, nat_tests), grind (arith, nat_tests)))
    (λ h e. (grind (arith, nat_tests), grind (arith, nat_tests)))
    (λ h e. (grind (arith, nat_tests), grind (arith, nat_tests)))
    (λ h e. (grind (arith, nat_tests), grind (arith, nat_tests)))
    (λ h e. (grind (arith, nat_tests), grind (arith, nat_tests)))
    (λ h e. (grind (arith, nat_tests), grind (arith, nat_tests)))
    (λ h e. (grind (arith, nat_tests), grind (arith, nat_tests)))
    (λ h e. (grind (arith, nat_tests), grind (arith, nat_tests)))
    (λ h e. (grind (arith, nat_tests), grind (arith, nat_tests)))
    (λ h e. (grind (arith, nat_tests), grind (arith, nat_tests)))

pub month_of_day-place : (p : ℕ) → p < 366 → (1 ≤ month_of_day p) × (month_of_day p ≤ 12)
month_of_day-place p h = (grind (arith, nat_tests), grind (arith, nat_tests))

-- the month that the closed form finds has the day
pub month_found : (leap : Bool) (p r : ℕ) → p < (if leap then 366 else 365) → (1 ≤ r) × (r ≤ 12) → r ≡ month_of_day p → IsInMonth leap r p
month_found true p r h place e = found_true p r place.0 place.1 h e
month_found false p r h place e = found_false p r place.0 place.1 h e
