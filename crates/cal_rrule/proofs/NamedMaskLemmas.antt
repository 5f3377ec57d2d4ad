-- Days that the places of a set name.
use Rattle.std.proofs.Common.{◌≡◌, ◌∙◌, ℕ, ◌+◌, ◌*◌, ◌/◌, ◌%◌, ◌<◌, ◌≤◌, ◌⊎◌, IsTrue, List, length, get_or, false, ℤ, refl, sym, subst, arith}
use mathlib.Core.Bool.{true≢false}
use mathlib.Core.Logic.{inl, inr, ⊎_elim}
use Rattle.std.proofs.lemmas.Bool.{cases_lt}
use Rattle.std.proofs.lemmas.List.{get_or_past}
use Rattle.std.proofs.lemmas.Nat.Bits.{bit_at-zero}
use Rattle.cal_rule.specs.Sets.{has_number, has_place, number_of}
use Rattle.cal_rule.specs.declared.place_set.Place.{Place}
use Rattle.cal_rule.specs.declared.place_set.Place.TheVariants.{FromFront, FromBack}
use Rattle.cal_rule.specs.declared.place_set.PlaceSet.{PlaceSet}
use Rattle.cal_rule.specs.declared.skip.Skip.{Skip}
use Rattle.cal_rrule.specs.Masks.{Adds, IsNamedBelow}
use Rattle.cal_rrule.specs.Stretches.{NamesDay, Stretch}
use Rattle.cal_rrule.proofs.MaskLemmas.{adds-as, adds-then}
use Rattle.recurrence_sets.specs.declared.period_days.PeriodDays.{PeriodDays}

abbrev NamedAt : {words : ℕ} → PlaceSet words → Skip → Stretch → Place → ℤ → Type 0
NamedAt set skip s d n = IsTrue (has_place set d) × NamesDay skip s d n

-- the two places of one number more
pub named-more : {words : ℕ} (set : PlaceSet words) (skip : Skip) (s : Stretch) (k : ℕ) (old mid more new : PeriodDays) →
    Adds old mid (IsNamedBelow k set skip s) →
    Adds mid more (λ n. IsTrue (has_place set (FromFront k)) × NamesDay skip s (FromFront k) n) →
    Adds more new (λ n. IsTrue (has_place set (FromBack k)) × NamesDay skip s (FromBack k) n) →
    Adds old new (IsNamedBelow (k + 1) set skip s)
named-more set skip s k old mid more new before front back =
    adds-as old new (λ n. (IsNamedBelow k set skip s n ⊎ NamedAt set skip s (FromFront k) n) ⊎ NamedAt set skip s (FromBack k) n)
    (IsNamedBelow (k + 1) set skip s)
    (adds-then old more new (λ n. IsNamedBelow k set skip s n ⊎ NamedAt set skip s (FromFront k) n)
    (NamedAt set skip s (FromBack k))
    (adds-then old mid more (IsNamedBelow k set skip s) (NamedAt set skip s (FromFront k)) before front) back)
    (λ n. (there n, back_again n))
  where
    there : (n : ℤ) → (IsNamedBelow k set skip s n ⊎ NamedAt set skip s (FromFront k) n) ⊎ NamedAt set skip s (FromBack k) n →
        IsNamedBelow (k + 1) set skip s n
    there n (inl (inl p)) = (p.0, omega (arith, p.1), p.2, p.3)
    there n (inl (inr p)) = (FromFront k, omega arith, p.0, p.1)
    there n (inr p) = (FromBack k, omega arith, p.0, p.1)

    front_at : (n : ℤ) (m : ℕ) → m ≡ k → NamedAt set skip s (FromFront m) n → NamedAt set skip s (FromFront k) n
    front_at n m e p = subst (λ (j : ℕ). NamedAt set skip s (FromFront j) n) e p

    back_at : (n : ℤ) (m : ℕ) → m ≡ k → NamedAt set skip s (FromBack m) n → NamedAt set skip s (FromBack k) n
    back_at n m e p = subst (λ (j : ℕ). NamedAt set skip s (FromBack j) n) e p

    of_place : (n : ℤ) (d : Place) → number_of d < k + 1 → NamedAt set skip s d n →
        (IsNamedBelow k set skip s n ⊎ NamedAt set skip s (FromFront k) n) ⊎ NamedAt set skip s (FromBack k) n
    of_place n (FromFront m) low p =
        ⊎_elim (λ h. inl (inl (FromFront m, h, p.0, p.1))) (λ h. inl (inr (front_at n m (omega (arith, low, h)) p)))
        (cases_lt m k)
    of_place n (FromBack m) low p =
        ⊎_elim (λ h. inl (inl (FromBack m, h, p.0, p.1))) (λ h. inr (back_at n m (omega (arith, low, h)) p))
        (cases_lt m k)

    back_again : (n : ℤ) → IsNamedBelow (k + 1) set skip s n →
        (IsNamedBelow k set skip s n ⊎ NamedAt set skip s (FromFront k) n) ⊎ NamedAt set skip s (FromBack k) n
    back_again n q = of_place n q.0 q.1 (q.2, q.3)

-- a number that words have is one of their bits
in_words : (words : List ℕ) (count n : ℕ) → length words ≡ count → IsTrue (has_number words n) → n < 64 * count
in_words words count n same has = ⊎_elim (λ low. low) past (cases_lt n (64 * count))
  where
    past : 64 * count ≤ n → n < 64 * count
    past high =
        let none : get_or words (n / 64) 0 ≡ 0 = get_or_past words (n / 64) 0 (omega (arith, same, high)) in
        let zero : has_number words n ≡ false = rw (none, bit_at-zero (n % 64)) refl in
        absurd (true≢false (sym has ∙ zero))

-- so places are below as many numbers
pub few-places : {words : ℕ} (set : PlaceSet words) (count : ℕ) → length set.front ≡ count → length set.back ≡ count →
    (d : Place) → IsTrue (has_place set d) → number_of d < 64 * count
few-places set count front back (FromFront n) has = in_words set.front count n front has
few-places set count front back (FromBack n) has = in_words set.back count n back has
