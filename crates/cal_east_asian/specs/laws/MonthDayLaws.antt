-- The days of a year's months, and the bits that tell them.
use Rattle.std.proofs.Common.{◌≡◌, ◌∙◌, ℕ, zero, suc, ◌+◌, ◌-◌, ◌/◌, ◌%◌, ◌^◌, ◌<◌, ◌≤◌, refl, sym, ap, arith}
use Rattle.std.specs.Prelude.{sum_by}
use Rattle.std.proofs.lemmas.List.Sums.{sum_by-cons}
use native.Mathlib.Nat.{pow-suc, mul_comm, div-div-eq-div-mul}
use Rattle.cal_types.specs.CalendarList.{days_of}
use Rattle.cal_east_asian.specs.EastAsianYear.{months_of_year}
use Rattle.cal_east_asian.specs.EastAsianMonths.{entries_by, year_entries}
use Rattle.cal_east_asian.specs.laws.EastAsianEntryLaws.{entry_by}
use Rattle.cal_east_asian.specs.EastAsianPlaces.{month_days, days_of_months}

shifted : (long k : ℕ) → long / 2 / 2 ^ k ≡ long / 2 ^ suc k
shifted long k = div-div-eq-div-mul long 2 (2 ^ k) ∙ ap (λ (n : ℕ). long / n) (sym (pow-suc 2 k ∙ mul_comm (2 ^ k) 2))

-- without the first month's bit, each place tells the month after it
month_days-next : (long k : ℕ) → month_days (long / 2) (k + 1) ≡ month_days long (suc k + 1)
month_days-next long k =
    let here : k + 1 - 1 ≡ k = omega arith in
    let after : suc k + 1 - 1 ≡ suc k = omega arith in
    ap (λ (j : ℕ). 29 + long / 2 / 2 ^ j % 2) here ∙ (ap (λ (q : ℕ). 29 + q % 2) (shifted long k) ∙ ap (λ (j : ℕ). 29 + long / 2 ^ j % 2) (sym after))

-- the first month, and then the others
days-first : (long n : ℕ) → days_of_months long (suc n) ≡ 29 + long % 2 + days_of_months (long / 2) n
days-first long zero = let bit : long / 2 ^ 0 % 2 ≡ long % 2 = omega arith in omega (arith, bit)
days-first long (suc n) = omega (arith, days-first long n, month_days-next long n)

entries-days : (p i n long : ℕ) → sum_by days_of (entries_by p i n long) ≡ days_of_months long n
entries-days p i zero long = refl
entries-days p i (suc n) long =
    sum_by-cons days_of (entry_by p i (long % 2)) (entries_by p (i + 1) n (long / 2))
    ∙ (ap (λ (d : ℕ). 29 + long % 2 + d) (entries-days p (i + 1) n (long / 2)) ∙ sym (days-first long n))

-- a year has the days of its months
pub year-days : (p long : ℕ) → sum_by days_of (year_entries p long) ≡ days_of_months long (months_of_year p)
year-days p long = entries-days p 1 (months_of_year p) long

-- months of the same days have the same bits
pub bits-once : (n a b : ℕ) → a < 2 ^ n → b < 2 ^ n → ((i : ℕ) → 1 ≤ i → i ≤ n → month_days a i ≡ month_days b i) → a ≡ b
bits-once zero a b few fewer same = omega (arith, few, fewer)
bits-once (suc n) a b few fewer same =
    let first : a / 2 ^ 0 % 2 ≡ b / 2 ^ 0 % 2 = omega (arith, same 1 (omega arith) (omega arith)) in
    let others : a / 2 ≡ b / 2 = bits-once n (a / 2) (b / 2) (omega (arith, few, pow-suc 2 n)) (omega (arith, fewer, pow-suc 2 n))
    (λ i low high.
    let place : i ≡ i - 1 + 1 = omega arith in
    ap (month_days (a / 2)) place ∙ (month_days-next a (i - 1) ∙ (same (suc (i - 1) + 1) (omega arith) (omega arith) ∙ (sym (month_days-next b (i - 1)) ∙ ap (month_days (b / 2)) (sym place))))) in
    omega (arith, first, others)
