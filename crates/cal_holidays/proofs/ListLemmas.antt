-- The list of a stretch, from the first day that a rule names on.
use Rattle.std.proofs.Common.{◌≡◌, ◌<◌, ◌≤◌, ◌+◌, ◌-◌, ℕ, zero, suc, Bool, true, false, cond, List, [], ◌∷◌, ◌++◌, map, filter, Some, None, if◌then◌else◌, inl, inr, refl, sym, ap, subst, ◌∙◌, arith, ℤ, pos, ◌+ℤ◌, ◌-ℤ◌, ◌<ℤ◌, ◌≤ℤ◌}
use Rattle.std.specs.Prelude.{int_lt, nat_lt}
use Rattle.std.specs.List.{range_with_len}
use Rattle.std.proofs.lemmas.Int.{by_lt_z, ints}
use borrow.Author.Tests.{ltb-false}
use Rattle.std.proofs.lemmas.List.Elements.{filter-append}
use Rattle.cal_days.specs.Sums.{years_up}
use Rattle.cal_days.proofs.Signed.{by_lt, signed}
use Rattle.cal_holidays.specs.Merging.{IsAny, IsFirst, IsNamed, Stretch, behind, listed, listed_left, pairs_in, pairs_on}

not_named : (b : Bool) → (b ≡ true → ⊥) → b ≡ false
not_named true fails = absurd (fails refl)
not_named false fails = refl

module _ (names : ℕ → ℤ → Bool) (count : ℕ) where
  test : ℤ × ℕ → Bool
  test p = names p.1 p.0

  -- what a day has from a rule on, for so many rules
  abbrev rows : ℤ → ℕ → ℕ → List (ℤ × ℕ)
  rows n from left = filter (λ p. names p.1 p.0) (map (λ r. (n, r)) (range_with_len from left))

  -- what so many days have
  abbrev days : ℤ → ℕ → List (ℤ × ℕ)
  days n k = filter (λ p. names p.1 p.0) (pairs_in count n k)

  row-step : (n : ℤ) (from left : ℕ) (b : Bool) → names from n ≡ b → rows n from (suc left) ≡ cond b ((n, from) ∷ rows n (from + 1) left) (rows n (from + 1) left)
  row-step n from left b e = ap (λ (v : Bool). cond v ((n, from) ∷ rows n (from + 1) left) (rows n (from + 1) left)) e

  row-none : (n : ℤ) (from left : ℕ) → ((r : ℕ) → from ≤ r → r < from + left → names r n ≡ false) → rows n from left ≡ []
  row-none n from zero fails = refl
  row-none n from (suc left) fails =
      row-step n from left false (fails from (omega arith) (omega arith)) ∙ row-none n (from + 1) left (λ r low high. fails r (omega arith) (omega arith))

  row-first : (n : ℤ) (from left r : ℕ) → from ≤ r → r < from + left → names r n ≡ true → ((q : ℕ) → from ≤ q → q < r → names q n ≡ false)
      → rows n from left ≡ (n, r) ∷ rows n (r + 1) (from + left - (r + 1))
  row-first n from zero r low high is fails = absurd (omega arith)
  row-first n from (suc left) r low high is fails =
      by_lt {P = rows n from (suc left) ≡ (n, r) ∷ rows n (r + 1) (from + suc left - (r + 1))} from r
      (λ lt.
      let same : from + 1 + left - (r + 1) ≡ from + suc left - (r + 1) = omega arith in
      let more = row-first n (from + 1) left r (omega arith) (omega arith) is (λ q l h. fails q (omega arith) h) in
      row-step n from left false (fails from (omega arith) lt) ∙ (more ∙ ap (λ k. (n, r) ∷ rows n (r + 1) k) same))
      (λ ge.
      let here : from ≡ r = omega arith in
      let there : from + suc left - (r + 1) ≡ left = omega arith in
      let first : names from n ≡ true = subst (λ q. names q n ≡ true) (sym here) is in
      row-step n from left true first ∙ (ap (λ q. (n, q) ∷ rows n (q + 1) left) here ∙ ap (λ k. (n, r) ∷ rows n (r + 1) k) (sym there)))

  days-step : (n : ℤ) (k : ℕ) → days n (suc k) ≡ rows n 0 (count - 0) ++ days (n +ℤ pos 1) k
  days-step n k = filter-append (λ p. names p.1 p.0) (pairs_on count n 0) (pairs_in count (n +ℤ pos 1) k)

  days-none : (n : ℤ) (k : ℕ) → ((m : ℤ) (r : ℕ) → n ≤ℤ m → m <ℤ (n +ℤ pos k) → r < count → names r m ≡ false) → days n k ≡ []
  days-none n zero fails = refl
  days-none n (suc k) fails =
      days-step n k
      ∙ (ap (λ l. l ++ days (n +ℤ pos 1) k) (row-none n 0 (count - 0) (λ r low high. fails n r (omega (arith, signed)) (omega (arith, signed)) (omega arith)))
      ∙ days-none (n +ℤ pos 1) k (λ m r low high lt. fails m r (omega (arith, signed)) (omega (arith, signed)) lt))

  -- what is left of a day and of the days up to a last one
  abbrev tail : ℤ → ℕ → ℕ → List (ℤ × ℕ)
  tail n r k = rows n (r + 1) (count - (r + 1)) ++ days (n +ℤ pos 1) k

  days-first : (n : ℤ) (k : ℕ) (m : ℤ) (r : ℕ) → n ≤ℤ m → m <ℤ (n +ℤ pos k) → r < count → names r m ≡ true
      → ((d : ℤ) (q : ℕ) → n ≤ℤ d → d <ℤ m → q < count → names q d ≡ false) → ((q : ℕ) → q < r → names q m ≡ false)
      → days n k ≡ (m, r) ∷ tail m r (years_up (n +ℤ pos k -ℤ (m +ℤ pos 1)))
  days-first n zero m r low high lt is before same = absurd (omega (arith, signed))
  days-first n (suc k) m r low high lt is before same =
      by_lt_z {P = days n (suc k) ≡ (m, r) ∷ tail m r (years_up (n +ℤ pos (suc k) -ℤ (m +ℤ pos 1)))} n m
      (λ earlier.
      let sum : n +ℤ pos 1 +ℤ pos k ≡ n +ℤ pos (suc k) = omega (arith, signed) in
      let more = days-first (n +ℤ pos 1) k m r (omega (arith, signed)) (omega (arith, signed)) lt is (λ d q l h c. before d q (omega (arith, signed)) h c) same in
      days-step n k
      ∙ (ap (λ l. l ++ days (n +ℤ pos 1) k) (row-none n 0 (count - 0) (λ q l h. before n q (omega (arith, signed)) earlier (omega arith)))
      ∙ (more ∙ ap (λ z. (m, r) ∷ tail m r (years_up (z -ℤ (m +ℤ pos 1)))) sum)))
      (λ ge.
      let here : n ≡ m = omega (arith, signed) in
      let left : years_up (n +ℤ pos (suc k) -ℤ (m +ℤ pos 1)) ≡ k = omega (arith, signed) in
      let width : 0 + (count - 0) - (r + 1) ≡ count - (r + 1) = omega arith in
      let first = row-first m 0 (count - 0) r (omega arith) (omega arith) is (λ q l h. same q h) ∙ ap (λ w. (m, r) ∷ rows m (r + 1) w) width in
      days-step n k
      ∙ (ap (λ z. rows z 0 (count - 0) ++ days (z +ℤ pos 1) k) here
      ∙ (ap (λ l. l ++ days (m +ℤ pos 1) k) first ∙ ap (λ j. (m, r) ∷ tail m r j) (sym left))))

  listed-parts : (s : Stretch) → listed names count s ≡ rows s.first s.first_rule (count - s.first_rule) ++ days (s.first +ℤ pos 1) (years_up (s.last -ℤ s.first))
  listed-parts s = filter-append (λ p. names p.1 p.0) (pairs_on count s.first s.first_rule) (pairs_in count (s.first +ℤ pos 1) (years_up (s.last -ℤ s.first)))

  -- what is behind a day and a rule is the list of what is left
  behind-listed : (s : Stretch) (n : ℤ) (r : ℕ) → tail n r (years_up (s.last -ℤ n)) ≡ listed_left names count (behind count s n r)
  behind-listed s n r = by (nat_lt (r + 1) count) refl (int_lt n s.last) refl
    where
      next_day : ℤ → Stretch
      next_day m = record { first = m; last = s.last; first_rule = 0 }

      by : (a : Bool) → nat_lt (r + 1) count ≡ a → (b : Bool) → int_lt n s.last ≡ b
          → tail n r (years_up (s.last -ℤ n)) ≡ listed_left names count (if a then Some (record { first = n; last = s.last; first_rule = r + 1 }) else if b then Some (record { first = n +ℤ pos 1; last = s.last; first_rule = 0 }) else None)
      by true is b e = sym (listed-parts (record { first = n; last = s.last; first_rule = r + 1 }))
      by false is true e =
          let none : count - (r + 1) ≡ 0 = let all = ltb-false (r + 1) count is in omega (arith, all) in
          let more : years_up (s.last -ℤ n) ≡ suc (years_up (s.last -ℤ (n +ℤ pos 1))) = omega (arith, signed, ints) in
          ap (λ k. rows n (r + 1) k ++ days (n +ℤ pos 1) (years_up (s.last -ℤ n))) none
          ∙ ap (days (n +ℤ pos 1)) more
      by false is false e =
          let none : count - (r + 1) ≡ 0 = let all = ltb-false (r + 1) count is in omega (arith, all) in
          let end : years_up (s.last -ℤ n) ≡ 0 = omega (arith, signed, ints) in
          ap (λ k. rows n (r + 1) k ++ days (n +ℤ pos 1) (years_up (s.last -ℤ n))) none
          ∙ ap (days (n +ℤ pos 1)) end

  any : (s : Stretch) (m : ℤ) (q : ℕ) → q < count → names q m ≡ true → s.first ≤ℤ m → (s.first ≡ m → s.first_rule ≤ q) → m ≤ℤ s.last → IsNamed names count IsAny s m q
  any s m q lt is low on high = record { rule = lt; among = tt; named = is; from = low; on_first = on; until = high }

  -- where no rule names a day, the list is empty
  pub none-listed : (s : Stretch) → s.first ≤ℤ s.last → IsFirst names count IsAny s None → listed names count s ≡ []
  none-listed s order is =
      listed-parts s
      ∙ (ap (λ l. l ++ days (s.first +ℤ pos 1) (years_up (s.last -ℤ s.first)))
      (row-none s.first s.first_rule (count - s.first_rule) (λ r low high. not_named (names r s.first) (λ e.
      is.none refl s.first r (any s s.first r (omega arith) e (omega (arith, signed)) (λ _. low) order))))
      ∙ days-none (s.first +ℤ pos 1) (years_up (s.last -ℤ s.first)) (λ m r low high lt. not_named (names r m) (λ e.
      is.none refl m r (any s m r lt e (omega (arith, signed)) (λ same. absurd (omega (arith, signed))) (omega (arith, signed))))))

  -- the first day that a rule names comes first, and then what is behind it
  pub first-listed : (s : Stretch) (n : ℤ) (r : ℕ) → IsFirst names count IsAny s (Some (n, r))
      → listed names count s ≡ (n, r) ∷ listed_left names count (behind count s n r)
  first-listed s n r is =
      let here = is.some n r refl in
      let least = is.least n r refl in
      listed-parts s ∙ (by_lt_z {P = rows s.first s.first_rule (count - s.first_rule) ++ days (s.first +ℤ pos 1) (years_up (s.last -ℤ s.first)) ≡ (n, r) ∷ tail n r (years_up (s.last -ℤ n))} s.first n
      (λ later.
      let left : years_up (s.first +ℤ pos 1 +ℤ pos (years_up (s.last -ℤ s.first)) -ℤ (n +ℤ pos 1)) ≡ years_up (s.last -ℤ n) = omega (arith, signed, here.until) in
      ap (λ l. l ++ days (s.first +ℤ pos 1) (years_up (s.last -ℤ s.first)))
      (row-none s.first s.first_rule (count - s.first_rule) (λ q low high. not_named (names q s.first) (λ e.
      least s.first q (any s s.first q (omega arith) e (omega (arith, signed)) (λ _. low) (omega (arith, signed, here.until))) (inl later))))
      ∙ (days-first (s.first +ℤ pos 1) (years_up (s.last -ℤ s.first)) n r (omega (arith, signed)) (omega (arith, signed, here.until)) here.rule here.named
      (λ d q low high lt. not_named (names q d) (λ e. least d q (any s d q lt e (omega (arith, signed)) (λ same. absurd (omega (arith, signed))) (omega (arith, signed, here.until))) (inl high)))
      (λ q lt. not_named (names q n) (λ e. least n q (any s n q (omega (arith, here.rule)) e here.from (λ same. absurd (omega (arith, signed))) here.until) (inr (refl, lt))))
      ∙ ap (λ k. (n, r) ∷ tail n r k) left))
      (λ ge.
      let same : s.first ≡ n = omega (arith, signed, here.from) in
      let low = here.on_first same in
      let width : s.first_rule + (count - s.first_rule) - (r + 1) ≡ count - (r + 1) = omega (arith, here.rule) in
      ap (λ z. rows z s.first_rule (count - s.first_rule) ++ days (z +ℤ pos 1) (years_up (s.last -ℤ z))) same
      ∙ (ap (λ l. l ++ days (n +ℤ pos 1) (years_up (s.last -ℤ n))) (row-first n s.first_rule (count - s.first_rule) r low (omega (arith, here.rule)) here.named
      (λ q l lt. not_named (names q n) (λ e. least n q (any s n q (omega (arith, here.rule)) e here.from (λ _. l) here.until) (inr (refl, lt)))))
      ∙ ap (λ w. (n, r) ∷ (rows n (r + 1) w ++ days (n +ℤ pos 1) (years_up (s.last -ℤ n)))) width))
      ∙ ap (λ l. (n, r) ∷ l) (behind-listed s n r))
