-- The days of a stretch with their rules are all of them, in order.
use Rattle.std.proofs.Common.{◌≡◌, ◌<◌, ◌≤◌, ◌+◌, ◌-◌, inl, inr, ⊎_elim, ℕ, zero, suc, Bool, true, List, [], ◌∷◌, ◌++◌, length, map, refl, sym, ap, subst, subst₂, arith, ℤ, pos, ◌+ℤ◌, ◌-ℤ◌, ◌<ℤ◌, ◌≤ℤ◌}
use Rattle.std.specs.Prelude.{All, AllPairs, Contains, get_or}
use Rattle.std.specs.List.{range_with_len}
use Rattle.std.proofs.lemmas.Int.{by_lt_z}
use Rattle.std.proofs.lemmas.List.{get_or_append_left, get_or-append_right, length-append}
use Rattle.std.proofs.lemmas.List.Elements.{All-nil, All-cons, All-weaker, All-contains, Contains-append_left, Contains-append_right, Contains-append_cases, Contains-get_or}
use Rattle.std.proofs.lemmas.List.Kept.{AllPairs-cons, AllPairs-filter}
use Rattle.cal_anniversary.proofs.DaysLemmas.{filter-has, has-filter}
use Rattle.cal_days.specs.Sums.{years_up}
use Rattle.cal_days.proofs.Signed.{by_lt, signed}
use Rattle.cal_holidays.specs.Merging.{IsBefore, Stretch, listed, pairs_in, pairs_of, pairs_on}

-- items of one list that all stand in a relation to those of another
pairs-append : {X : Type 0} (R : X → X → Type 0) (xs ys : List X) → AllPairs R xs → AllPairs R ys → ((x y : X) → Contains xs x → Contains ys y → R x y) → AllPairs R (xs ++ ys)
pairs-append {X} R xs ys left right across i j d lt within =
    let sum = length-append xs ys in
    by_lt {P = R (get_or (xs ++ ys) i d) (get_or (xs ++ ys) j d)} j (length xs)
    (λ low. subst₂ R (sym (get_or_append_left xs ys d i (omega arith))) (sym (get_or_append_left xs ys d j low)) (left i j d lt low))
    (λ high.
    let there : j - length xs < length ys = omega arith in
    by_lt {P = R (get_or (xs ++ ys) i d) (get_or (xs ++ ys) j d)} i (length xs)
    (λ before. subst₂ R (sym (get_or_append_left xs ys d i before)) (sym (get_or-append_right xs ys (length xs) j d refl high)) (across _ _ (Contains-get_or xs i d before) (Contains-get_or ys (j - length xs) d there)))
    (λ past.
    let less : i - length xs < j - length xs = omega arith in
    subst₂ R (sym (get_or-append_right xs ys (length xs) i d refl past)) (sym (get_or-append_right xs ys (length xs) j d refl high)) (right (i - length xs) (j - length xs) d less there)))

-- the order of days and then of rules
abbrev pub Comes : ℤ × ℕ → ℤ × ℕ → Type 0
Comes x y = IsBefore x.0 x.1 y.0 y.1

-- ---- one day

abbrev IsRow : ℤ → ℕ → ℕ → ℤ × ℕ → Type 0
IsRow n from left p = (p.0 ≡ n) × (from ≤ p.1) × (p.1 < from + left)

abbrev row : ℤ → ℕ → ℕ → List (ℤ × ℕ)
row n from left = map (λ r. (n, r)) (range_with_len from left)

row-all : (n : ℤ) (from left : ℕ) → All (IsRow n from left) (row n from left)
row-all n from zero = All-nil (IsRow n from zero)
row-all n from (suc left) =
    All-cons (IsRow n from (suc left)) (n, from) (row n (from + 1) left) (refl, omega arith, omega arith)
    (All-weaker (IsRow n (from + 1) left) (IsRow n from (suc left)) (λ p h. (h.0, omega (arith, h.1), omega (arith, h.2))) (row n (from + 1) left) (row-all n (from + 1) left))

row-has : (n : ℤ) (from left r : ℕ) → from ≤ r → r < from + left → Contains (row n from left) (n, r)
row-has n from zero r low high = absurd (omega arith)
row-has n from (suc left) r low high =
    by_lt {P = Contains (row n from (suc left)) (n, r)} from r
    (λ lt. Contains-append_right ((n, from) ∷ []) (row n (from + 1) left) (n, r) (row-has n (from + 1) left r (omega arith) (omega arith)))
    (λ ge. let same : from ≡ r = omega arith in (0, omega arith, ap (λ (q : ℕ). (n, q)) same))

row-rises : (n : ℤ) (from left : ℕ) → AllPairs Comes (row n from left)
row-rises n from zero = λ i j d lt within. absurd (omega arith)
row-rises n from (suc left) =
    AllPairs-cons Comes (n, from) (row n (from + 1) left)
    (All-weaker (IsRow n (from + 1) left) (λ p. Comes (n, from) p) (λ p h. inr (sym h.0, omega (arith, h.1))) (row n (from + 1) left) (row-all n (from + 1) left))
    (row-rises n (from + 1) left)

-- ---- some days

module _ (count : ℕ) where
  abbrev IsOfDays : ℤ → ℕ → ℤ × ℕ → Type 0
  IsOfDays n k p = (n ≤ℤ p.0) × (p.0 <ℤ (n +ℤ pos k)) × (p.1 < count)

  days-of : (n : ℤ) (k : ℕ) (p : ℤ × ℕ) → Contains (pairs_in count n k) p → IsOfDays n k p
  days-of n zero p has = absurd (omega (arith, has.1))
  days-of n (suc k) p has = ⊎_elim
      (λ here.
      let h = All-contains (IsRow n 0 (count - 0)) (row n 0 (count - 0)) p (row-all n 0 (count - 0)) here in
      (omega (arith, signed, h.0), omega (arith, signed, h.0), omega (arith, h.2)))
      (λ there.
      let h = days-of (n +ℤ pos 1) k p there in
      (omega (arith, signed, h.0), omega (arith, signed, h.1), h.2))
      (Contains-append_cases (pairs_on count n 0) (pairs_in count (n +ℤ pos 1) k) p has)

  days-has : (n : ℤ) (k : ℕ) (m : ℤ) (r : ℕ) → n ≤ℤ m → m <ℤ (n +ℤ pos k) → r < count → Contains (pairs_in count n k) (m, r)
  days-has n zero m r low high lt = absurd (omega (arith, signed))
  days-has n (suc k) m r low high lt =
      by_lt_z {P = Contains (pairs_in count n (suc k)) (m, r)} n m
      (λ later. Contains-append_right (pairs_on count n 0) (pairs_in count (n +ℤ pos 1) k) (m, r) (days-has (n +ℤ pos 1) k m r (omega (arith, signed)) (omega (arith, signed)) lt))
      (λ ge.
      let same : n ≡ m = omega (arith, signed) in
      Contains-append_left (pairs_on count n 0) (pairs_in count (n +ℤ pos 1) k) (m, r)
      (subst (λ (z : ℤ). Contains (pairs_on count n 0) (z, r)) same (row-has n 0 (count - 0) r (omega arith) (omega arith))))

  days-rise : (n : ℤ) (k : ℕ) → AllPairs Comes (pairs_in count n k)
  days-rise n zero = λ i j d lt within. absurd (omega arith)
  days-rise n (suc k) =
      pairs-append Comes (pairs_on count n 0) (pairs_in count (n +ℤ pos 1) k) (row-rises n 0 (count - 0)) (days-rise (n +ℤ pos 1) k)
      (λ x y h g.
      let before = All-contains (IsRow n 0 (count - 0)) (row n 0 (count - 0)) x (row-all n 0 (count - 0)) h in
      let after = days-of (n +ℤ pos 1) k y g in
      inl (omega (arith, signed, before.0, after.0)))

  -- ---- a stretch

  -- a day of a stretch and a rule
  pub record IsOfStretch (s : Stretch) (n : ℤ) (r : ℕ) : Type 0 where
    pub from : s.first ≤ℤ n
    pub until : n ≤ℤ s.last
    pub on_first : s.first ≡ n → s.first_rule ≤ r
    pub rule : r < count

  pairs-of : (s : Stretch) → s.first ≤ℤ s.last → (n : ℤ) (r : ℕ) → Contains (pairs_of count s) (n, r) → IsOfStretch s n r
  pairs-of s order n r has = ⊎_elim
      (λ here.
      let h = All-contains (IsRow s.first s.first_rule (count - s.first_rule)) (row s.first s.first_rule (count - s.first_rule)) (n, r) (row-all s.first s.first_rule (count - s.first_rule)) here in
      record { from = omega (arith, signed, h.0); until = omega (arith, signed, h.0, order); on_first = λ _. h.1; rule = omega (arith, h.1, h.2) })
      (λ there.
      let h = days-of (s.first +ℤ pos 1) (years_up (s.last -ℤ s.first)) (n, r) there in
      record { from = omega (arith, signed, h.0); until = omega (arith, signed, h.1, order); on_first = λ same. absurd (omega (arith, signed, h.0, same)); rule = h.2 })
      (Contains-append_cases (pairs_on count s.first s.first_rule) (pairs_in count (s.first +ℤ pos 1) (years_up (s.last -ℤ s.first))) (n, r) has)

  pairs-has : (s : Stretch) (n : ℤ) (r : ℕ) → IsOfStretch s n r → Contains (pairs_of count s) (n, r)
  pairs-has s n r is =
      by_lt_z {P = Contains (pairs_of count s) (n, r)} s.first n
      (λ later.
      Contains-append_right (pairs_on count s.first s.first_rule) (pairs_in count (s.first +ℤ pos 1) (years_up (s.last -ℤ s.first))) (n, r)
      (days-has (s.first +ℤ pos 1) (years_up (s.last -ℤ s.first)) n r (omega (arith, signed)) (omega (arith, signed, is.until)) is.rule))
      (λ ge.
      let same : s.first ≡ n = omega (arith, signed, is.from) in
      let low = is.on_first same in
      Contains-append_left (pairs_on count s.first s.first_rule) (pairs_in count (s.first +ℤ pos 1) (years_up (s.last -ℤ s.first))) (n, r)
      (subst (λ (z : ℤ). Contains (pairs_on count s.first s.first_rule) (z, r)) same (row-has s.first s.first_rule (count - s.first_rule) r low (omega (arith, low, is.rule)))))

  pairs-rise : (s : Stretch) → AllPairs Comes (pairs_of count s)
  pairs-rise s =
      pairs-append Comes (pairs_on count s.first s.first_rule) (pairs_in count (s.first +ℤ pos 1) (years_up (s.last -ℤ s.first)))
      (row-rises s.first s.first_rule (count - s.first_rule)) (days-rise (s.first +ℤ pos 1) (years_up (s.last -ℤ s.first)))
      (λ x y h g.
      let before = All-contains (IsRow s.first s.first_rule (count - s.first_rule)) (row s.first s.first_rule (count - s.first_rule)) x (row-all s.first s.first_rule (count - s.first_rule)) h in
      let after = days-of (s.first +ℤ pos 1) (years_up (s.last -ℤ s.first)) y g in
      inl (omega (arith, signed, before.0, after.0)))

  module _ (names : ℕ → ℤ → Bool) (s : Stretch) where
    -- what is listed rises
    pub listed-rises : AllPairs Comes (listed names count s)
    listed-rises = AllPairs-filter Comes (λ p. names p.1 p.0) (pairs_of count s) (pairs-rise s)

    -- and is exactly what is named
    pub listed-of : s.first ≤ℤ s.last → (n : ℤ) (r : ℕ) → Contains (listed names count s) (n, r) → IsOfStretch s n r × (names r n ≡ true)
    listed-of order n r has =
        let parts = has-filter (λ (p : ℤ × ℕ). names p.1 p.0) (pairs_of count s) (n, r) has in
        (pairs-of s order n r parts.0, parts.1)

    pub listed-has : (n : ℤ) (r : ℕ) → IsOfStretch s n r → names r n ≡ true → Contains (listed names count s) (n, r)
    listed-has n r is named = filter-has (λ (p : ℤ × ℕ). names p.1 p.0) (pairs_of count s) (n, r) (pairs-has s n r is) named
