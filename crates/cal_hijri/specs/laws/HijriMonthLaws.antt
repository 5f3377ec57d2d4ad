-- The lengths of the months of a Hijri year, and the days before each.
use Rattle.std.proofs.Common.{◌≡◌, ℕ, zero, suc, ◌+◌, ◌-◌, ◌*◌, ◌<◌, ◌≤◌, refl, arith, pos}
use Rattle.std.specs.Prelude.{slice_index_or}
use Rattle.cal_types.specs.CalendarList.{CalendarList, no_entry, days_before}
use Rattle.cal_types.specs.PlainMonths.{is_plain_month, numbered_month}
use Rattle.cal_types.proofs.ListLemmas.{days_before-next}
use Rattle.cal_types.proofs.MonthCases.{by_month}
use Rattle.cal_hijri.specs.HijriMonths.{months_of, days_of_months, month_days, prior_days}

-- each year with the same months
abbrev same_months : ℕ → CalendarList
same_months long = record { anchor_year = pos 0; anchor_day = pos 0; entries = λ _. months_of long; is_of_kind = is_plain_month 12; stand_in = λ m. m }

-- a month has 29 or 30 days
pub month_days-within : (long i : ℕ) → 1 ≤ i → i ≤ 12 → (29 ≤ month_days long i) × (month_days long i ≤ 30)
month_days-within long = by_month (λ i. (29 ≤ month_days long i) × (month_days long i ≤ 30))
    (omega arith, omega arith) (omega arith, omega arith) (omega arith, omega arith) (omega arith, omega arith)
    (omega arith, omega arith) (omega arith, omega arith) (omega arith, omega arith) (omega arith, omega arith)
    (omega arith, omega arith) (omega arith, omega arith) (omega arith, omega arith) (omega arith, omega arith)

-- the next month starts where a month ends
pub prior_days-next : (long i : ℕ) → 1 ≤ i → i ≤ 12 → prior_days long (i + 1) ≡ prior_days long i + month_days long i
unfolding days_before
prior_days-next long i low high = days_before-next (same_months long) (pos 0) i (low, high)

-- n months have from 29 n to 30 n days
pub prior_days-within : (long n : ℕ) → n ≤ 12 → (29 * n ≤ prior_days long (n + 1)) × (prior_days long (n + 1) ≤ 30 * n)
prior_days-within long zero h = (omega arith, omega arith)
prior_days-within long (suc n) h =
    let known = prior_days-within long n (omega arith) in
    let month = month_days-within long (n + 1) (omega arith) (omega arith) in
    let step = prior_days-next long (n + 1) (omega arith) (omega arith) in
    let e : suc n + 1 ≡ n + 1 + 1 = omega arith in
    (rw e (omega (arith, known, month, step)), rw e (omega (arith, known, month, step)))

-- so a year has 348 to 360 days
pub days_of_months-within : (long : ℕ) → (348 ≤ days_of_months long) × (days_of_months long ≤ 360)
days_of_months-within long = prior_days-within long 12 (omega arith)

-- the months are the plain months 1 to 12
pub month_at-numbered : (long i : ℕ) → 1 ≤ i → i ≤ 12 → (slice_index_or (months_of long) (i - 1) no_entry).month ≡ numbered_month i
month_at-numbered long = by_month (λ i. (slice_index_or (months_of long) (i - 1) no_entry).month ≡ numbered_month i) refl refl refl refl refl refl refl refl refl refl refl refl

-- months with the same days have the same bits
pub long_months-once : (a b : ℕ) → a < 4096 → b < 4096 → ((i : ℕ) → 1 ≤ i → i ≤ 12 → month_days a i ≡ month_days b i) → a ≡ b
long_months-once a b h k same =
    let at : (i : ℕ) → 1 ≤ i → i ≤ 12 → month_days a i ≡ month_days b i = same in
    omega (arith, at 1 (omega arith) (omega arith), at 2 (omega arith) (omega arith), at 3 (omega arith) (omega arith), at 4 (omega arith) (omega arith), at 5 (omega arith) (omega arith), at 6 (omega arith) (omega arith), at 7 (omega arith) (omega arith), at 8 (omega arith) (omega arith), at 9 (omega arith) (omega arith), at 10 (omega arith) (omega arith), at 11 (omega arith) (omega arith), at 12 (omega arith) (omega arith))
