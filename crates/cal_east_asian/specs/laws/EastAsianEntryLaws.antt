-- The months of a year of a Chinese or Korean calendar, place by place.
use Rattle.std.proofs.Common.{◌≡◌, ℕ, zero, suc, ◌+◌, ◌/◌, ◌%◌, ◌^◌, ◌<◌, ◌≤◌, IsTrue, refl, sym, ap, ◌∙◌, arith}
use Rattle.std.specs.Prelude.{slice_index_or, length}
use Rattle.std.proofs.lemmas.Bool.Decides.{nat_tests}
use native.Mathlib.Nat.{pow-suc, mul_comm, div-div-eq-div-mul}
use Rattle.cal_types.specs.Month.{month_rank}
use Rattle.cal_types.specs.CalendarList.{Entry, no_entry}
use Rattle.cal_east_asian.specs.EastAsianYear.{is_leap_place, months_of_year}
use Rattle.cal_east_asian.specs.EastAsianMonths.{month_in_place, entries_by}
use Rattle.cal_east_asian.specs.EastAsianPlaces.{is_east_asian_month}

pub entries-length : (p i n bits : ℕ) → length (entries_by p i n bits) ≡ n
entries-length p i zero bits = refl
entries-length p i (suc n) bits = ap suc (entries-length p (i + 1) n (bits / 2))

abbrev pub entry_by : ℕ → ℕ → ℕ → Entry
entry_by p i bit = record { month = month_in_place p i; days = 29 + bit }

shifted : (bits k : ℕ) → bits / 2 / 2 ^ k ≡ bits / 2 ^ suc k
shifted bits k = div-div-eq-div-mul bits 2 (2 ^ k) ∙ ap (λ (n : ℕ). bits / n) (sym (pow-suc 2 k ∙ mul_comm (2 ^ k) 2))

pub entries-at : (p i n bits k : ℕ) → k < n → slice_index_or (entries_by p i n bits) k no_entry ≡ entry_by p (i + k) (bits / 2 ^ k % 2)
entries-at p i zero bits k h = absurd (omega arith)
entries-at p i (suc n) bits zero h =
    let place : i ≡ i + 0 = omega arith in
    let bit : bits % 2 ≡ bits / 2 ^ 0 % 2 = omega arith in
    ap (λ (j : ℕ). entry_by p j (bits % 2)) place ∙ ap (entry_by p (i + 0)) bit
entries-at p i (suc n) bits (suc k) h =
    let place : i + 1 + k ≡ i + suc k = omega arith in
    entries-at p (i + 1) n (bits / 2) k (omega arith)
    ∙ (ap (λ (j : ℕ). entry_by p j (bits / 2 / 2 ^ k % 2)) place ∙ ap (λ (b : ℕ). entry_by p (i + suc k) (b % 2)) (shifted bits k))

-- months rise
pub rank-rises : (p i j : ℕ) → 1 ≤ i → i < j → month_rank (month_in_place p i) < month_rank (month_in_place p j)
rank-rises p i j low lt = grind (arith, nat_tests)

-- and are of the calendar's kind
pub kind-in_place : (p i : ℕ) → IsTrue (is_leap_place p) → 1 ≤ i → i ≤ months_of_year p → IsTrue (is_east_asian_month (month_in_place p i))
kind-in_place p i leap low high = grind (arith, nat_tests)
