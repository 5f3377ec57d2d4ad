-- Days of a kind that is decided for each day: lists of them, how many there are, and places among them.
use Rattle.std.proofs.Common.{◌≡◌, ℕ, zero, suc, ◌+◌, ◌⊎◌, inl, inr, List, [], ◌∷◌, ◌++◌, length, refl, sym, subst, arith, ℤ, pos, ◌+ℤ◌, ◌-ℤ◌, ◌≤ℤ◌, ◌<ℤ◌, unsigned_abs}
use Rattle.std.specs.Prelude.{Contains}
use Rattle.std.proofs.lemmas.Int.{by_lt_z}
use Rattle.std.proofs.lemmas.List.Elements.{Contains-append_left, Contains-push, Contains-push_cases}
use Rattle.cal_days.specs.Day.{IsBetween}
use Rattle.cal_days.proofs.Signed.{signed}
use Rattle.cal_rule.specs.declared.place_set.Place.{Place}
use Rattle.cal_rule.specs.declared.place_set.Place.TheVariants.{FromFront, FromBack}
use Rattle.recurrence_sets.specs.Days.{AreDays, HasCount, HasPlaceAmong}
use Rattle.recurrence_sets.proofs.DayLemmas.{count-unique, pairs-push}
use Rattle.rule_lists.proofs.Deciding.{both, is_less_z, is_same, like, of_one}

-- ---- lists

-- a kind that has no days has the empty list
days-none : (P : ℤ → Type 0) → ((n : ℤ) → ¬ (P n)) → AreDays P []
days-none P none = record {
  rising = λ i j d lt within. absurd (omega (arith, within));
  exact = λ n. (λ has. absurd (omega (arith, has.1)), λ p. absurd (none n p));
}

-- the days of a kind are those of another that says the same
days-like : (P Q : ℤ → Type 0) (days : List ℤ) → ((n : ℤ) → P n → Q n) → ((n : ℤ) → Q n → P n) →
    AreDays P days → AreDays Q days
days-like P Q days to from are = record {
  rising = are.rising;
  exact = λ n. (λ has. to n ((are.exact n).0 has), λ q. (are.exact n).1 (from n q));
}

-- one day more, behind all others
days-push : (P Q : ℤ → Type 0) (days : List ℤ) (n : ℤ) → ((m : ℤ) → P m → m <ℤ n) → Q n →
    ((m : ℤ) → P m → Q m) → ((m : ℤ) → Q m → P m ⊎ (n ≡ m)) → AreDays P days → AreDays Q (days ++ (n ∷ []))
days-push P Q days n before here to from are = record {
  rising = pairs-push (λ a b. a <ℤ b) days n are.rising (λ m has. before m ((are.exact m).0 has));
  exact = λ m. (λ has. out m (Contains-push_cases days n m has), λ q. into m (from m q));
} where
  out : (m : ℤ) → Contains days m ⊎ (n ≡ m) → Q m
  out m (inl there) = to m ((are.exact m).0 there)
  out m (inr same) = subst Q same here

  into : (m : ℤ) → P m ⊎ (n ≡ m) → Contains (days ++ (n ∷ [])) m
  into m (inl p) = Contains-append_left days (n ∷ []) m ((are.exact m).1 p)
  into m (inr same) = subst (Contains (days ++ (n ∷ []))) same (Contains-push days n)

module _ (P : ℤ → Type 0) (decide : (n : ℤ) → Dec (P n)) where
  -- a day of the kind, one of so many from a first one on
  abbrev IsFrom : ℤ → ℕ → ℤ → Type 0
  IsFrom first count n = P n × (first ≤ℤ n) × (n <ℤ (first +ℤ pos count))

  -- one of these is one of one day fewer, or the day behind them
  from-last : (first : ℤ) (count : ℕ) (m : ℤ) → IsFrom first (suc count) m →
      IsFrom first count m ⊎ ((first +ℤ pos count) ≡ m)
  from-last first count m h =
      by_lt_z {P = IsFrom first count m ⊎ ((first +ℤ pos count) ≡ m)} m (first +ℤ pos count)
      (λ lt. inl (h.0, h.1, lt))
      (λ ge. inr (omega (arith, signed, ge, h.2)))

  -- with one day more to look at, the list stays as it is or has that day too
  days-next : (first : ℤ) (count : ℕ) (days : List ℤ) → AreDays (IsFrom first count) days →
      Dec (P (first +ℤ pos count)) → (more : List ℤ) × AreDays (IsFrom first (suc count)) more
  days-next first count days are (yes p) = (
    days ++ ((first +ℤ pos count) ∷ []),
    days-push (IsFrom first count) (IsFrom first (suc count)) days (first +ℤ pos count)
        (λ m h. h.2)
        (p, omega (arith, signed), omega (arith, signed))
        (λ m h. (h.0, h.1, omega (arith, signed, h.2)))
        (from-last first count) are,
  )
  days-next first count days are (no never) = (
    days,
    days-like (IsFrom first count) (IsFrom first (suc count)) days
        (λ m h. (h.0, h.1, omega (arith, signed, h.2))) back are,
  ) where
    back : (m : ℤ) → IsFrom first (suc count) m → IsFrom first count m
    back m h = by_case (from-last first count m h) where
      by_case : IsFrom first count m ⊎ ((first +ℤ pos count) ≡ m) → IsFrom first count m
      by_case (inl early) = early
      by_case (inr same) = absurd (never (subst P (sym same) h.0))

  -- the days of the kind among so many from a first one on
  days-from : (first : ℤ) (count : ℕ) → (days : List ℤ) × AreDays (IsFrom first count) days
  days-from first zero = ([], days-none (IsFrom first zero) (λ n h. omega (arith, signed, h.1, h.2)))
  days-from first (suc count) =
      let (days, are) = days-from first count in
      days-next first count days are (decide (first +ℤ pos count))

  -- the days of the kind from one day to another can be listed
  pub days-between : (first last : ℤ) → (days : List ℤ) × AreDays (λ n. P n × IsBetween first last n) days
  days-between first last =
      by_lt_z {P = (days : List ℤ) × AreDays (λ n. P n × IsBetween first last n) days} last first
      (λ lt. ([], days-none (λ n. P n × IsBetween first last n) (λ n h. omega (arith, signed, lt, h.1.0, h.1.1))))
      (λ le.
      let (days, are) = days-from first (unsigned_abs (last -ℤ first) + 1) in (
        days,
        days-like (IsFrom first (unsigned_abs (last -ℤ first) + 1)) (λ n. P n × IsBetween first last n) days
            (λ n h. (h.0, (h.1, omega (arith, signed, le, h.2))))
            (λ n h. (h.0, h.1.0, omega (arith, signed, le, h.1.1))) are,
      ))

  -- if all days of the kind are between two days, there is a count of them
  pub count-finds : (low high : ℤ) → ((n : ℤ) → P n → IsBetween low high n) → (i : ℕ) × HasCount P i
  count-finds low high within =
      let (days, are) = days-between low high in
      let all = days-like (λ n. P n × IsBetween low high n) P days (λ n h. h.0) (λ n p. (p, within n p)) are in
      (length days, ∣ (days, all, refl) ∣₁)

-- it is decided whether a number is one more than the count of the days of a kind
count-decided : (P : ℤ → Type 0) → ((n : ℤ) → Dec (P n)) → (low high : ℤ) → ((n : ℤ) → P n → IsBetween low high n) →
    (k : ℕ) → Dec ((i : ℕ) × (k ≡ i + 1) × HasCount P i)
count-decided P decide low high within k =
    let (count, is) = count-finds P decide low high within in
    like (λ (i, has, e). (i, e, has)) (λ (i, e, has). (i, has, e))
    (of_one {Q = HasCount P} {R = λ i. k ≡ i + 1} count is
    (λ i has. count-unique P i count has is) (is_same k (count + 1)))

-- it is decided whether a day has a place among the days of a kind
pub place-decided : (P : ℤ → Type 0) → ((n : ℤ) → Dec (P n)) → (low high : ℤ) →
    ((n : ℤ) → P n → IsBetween low high n) → (n : ℤ) (p : Place) → Dec (HasPlaceAmong P n p)
place-decided P decide low high within n (FromFront k) =
    count-decided (λ m. P m × (m <ℤ n)) (λ m. both (decide m) (is_less_z m n)) low high (λ m h. within m h.0) k
place-decided P decide low high within n (FromBack k) =
    count-decided (λ m. P m × (n <ℤ m)) (λ m. both (decide m) (is_less_z n m)) low high (λ m h. within m h.0) k
