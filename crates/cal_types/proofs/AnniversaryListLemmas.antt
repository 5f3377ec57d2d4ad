-- The list of a window has exactly the window's anniversaries, in order.
use Rattle.std.proofs.Common.{◌≡◌, ℕ, zero, suc, ◌⊎◌, inl, inr, ⊎_elim, ◌↔◌, Bool, true, false, cond, List, [], ◌∷◌, filter, sym, ap, subst, arith, ℤ, pos, ◌+ℤ◌, ◌-ℤ◌, ◌<ℤ◌, ◌≤ℤ◌}
use Rattle.std.specs.Prelude.{⊤}
use Rattle.std.proofs.lemmas.Int.{by_lt_z}
use Rattle.cal_days.specs.Day.{IsBetween}
use Rattle.cal_days.specs.Sums.{years_up}
use Rattle.cal_days.proofs.Signed.{signed, by_bool}
use Rattle.cal_types.specs.Month.{MonthParts}
use Rattle.cal_types.specs.CalendarList.{CalendarList, IsLawful}
use Rattle.cal_types.specs.Anniversary.{IsAnniversary, is_anniversary, anniversaries_between}
use Rattle.cal_types.specs.Windows.{days_from}
use Rattle.cal_types.specs.declared.leaping.Leaping.{Leaping}
use Rattle.cal_types.proofs.AnniversaryLemmas.{anniversary-true, true-anniversary}

-- a number is one of some
abbrev pub Has : List ℤ → ℤ → Type 0
Has [] n = ⊥
Has (x ∷ xs) n = (x ≡ n) ⊎ Has xs n

-- numbers rise, from one on
abbrev pub RiseFrom : ℤ → List ℤ → Type 0
RiseFrom n [] = ⊤
RiseFrom n (x ∷ xs) = (n ≤ℤ x) × RiseFrom (x +ℤ pos 1) xs

filter-step : (test : ℤ → Bool) (n : ℤ) (count : ℕ) (b : Bool) → test n ≡ b → filter test (days_from n (suc count)) ≡ cond b (n ∷ filter test (days_from (n +ℤ pos 1) count)) (filter test (days_from (n +ℤ pos 1) count))
filter-step test n count b e = ap (λ (v : Bool). cond v (n ∷ filter test (days_from (n +ℤ pos 1) count)) (filter test (days_from (n +ℤ pos 1) count))) e

-- what is listed is one of the days, and passes
abbrev Listed : (ℤ → Bool) → ℤ → ℕ → ℤ → Type 0
Listed test n count k = (n ≤ℤ k) × (k <ℤ (n +ℤ pos count)) × (test k ≡ true)

later : (test : ℤ → Bool) (n : ℤ) (count : ℕ) (k : ℤ) → Listed test (n +ℤ pos 1) count k → Listed test n (suc count) k
later test n count k h = (omega (arith, signed, h.0), omega (arith, signed, h.1), h.2)

first-listed : (test : ℤ → Bool) (n : ℤ) (count : ℕ) (k : ℤ) → test n ≡ true → n ≡ k → Listed test n (suc count) k
first-listed test n count k holds e = (omega (arith, signed, e), omega (arith, signed, e), subst (λ (z : ℤ). test z ≡ true) e holds)

has-listed : (test : ℤ → Bool) (n : ℤ) (count : ℕ) (k : ℤ) → Has (filter test (days_from n count)) k → Listed test n count k
has-listed test n zero k h = absurd h
has-listed test n (suc count) k h =
    by_bool {P = Listed test n (suc count) k} (test n)
    (λ holds. ⊎_elim (first-listed test n count k holds)
    (λ rest. later test n count k (has-listed test (n +ℤ pos 1) count k rest)) (subst (λ xs. Has xs k) (filter-step test n count true holds) h))
    (λ fails. later test n count k (has-listed test (n +ℤ pos 1) count k (subst (λ xs. Has xs k) (filter-step test n count false fails) h)))

listed-has : (test : ℤ → Bool) (n : ℤ) (count : ℕ) (k : ℤ) → Listed test n count k → Has (filter test (days_from n count)) k
listed-has test n zero k h = absurd (omega (arith, signed, h.0, h.1))
listed-has test n (suc count) k h =
    by_lt_z {P = Has (filter test (days_from n (suc count))) k} n k
    (λ lt.
    let rest = listed-has test (n +ℤ pos 1) count k (omega (arith, signed), omega (arith, signed, h.1), h.2) in
    by_bool {P = Has (filter test (days_from n (suc count))) k} (test n)
    (λ holds. subst (λ xs. Has xs k) (sym (filter-step test n count true holds)) (inr rest))
    (λ fails. subst (λ xs. Has xs k) (sym (filter-step test n count false fails)) rest))
    (λ ge.
    let same : n ≡ k = omega (arith, signed, h.0) in
    subst (λ xs. Has xs k) (sym (filter-step test n count true (subst (λ (z : ℤ). test z ≡ true) (sym same) h.2))) (inl same))

rise-more : (n m : ℤ) (xs : List ℤ) → n ≤ℤ m → RiseFrom m xs → RiseFrom n xs
rise-more n m [] le h = h
rise-more n m (x ∷ xs) le h = (omega (arith, signed, h.0), h.1)

filter-rises : (test : ℤ → Bool) (n : ℤ) (count : ℕ) → RiseFrom n (filter test (days_from n count))
filter-rises test n zero = tt
filter-rises test n (suc count) =
    let rest = filter-rises test (n +ℤ pos 1) count in
    by_bool {P = RiseFrom n (filter test (days_from n (suc count)))} (test n)
    (λ holds. subst (RiseFrom n) (sym (filter-step test n count true holds)) (omega (arith, signed), rest))
    (λ fails. subst (RiseFrom n) (sym (filter-step test n count false fails)) (rise-more n (n +ℤ pos 1) _ (omega (arith, signed)) rest))

module _ (c : CalendarList) (law : IsLawful c) (leaping : Leaping) (m : MonthParts) (d : ℕ) (first last : ℤ) where
  -- the items of the list are the window's anniversaries, and these are its items
  pub anniversaries-exact : (n : ℤ) → Has (anniversaries_between c leaping m d first last) n ↔ (IsBetween first last n × IsAnniversary c leaping m d n)
  anniversaries-exact n =
      let count = years_up (last -ℤ first +ℤ pos 1) in (
        λ h.
            let listed = has-listed (is_anniversary c leaping m d) first count n h in
            ((listed.0, omega (arith, signed, listed.0, listed.1)), anniversary-true c law leaping m d n listed.2),
        λ h. listed-has (is_anniversary c leaping m d) first count n (h.0.0, omega (arith, signed, h.0), true-anniversary c law leaping m d n h.1),
      )

  -- and they rise
  pub anniversaries-rise : RiseFrom first (anniversaries_between c leaping m d first last)
  anniversaries-rise = filter-rises (is_anniversary c leaping m d) first (years_up (last -ℤ first +ℤ pos 1))
