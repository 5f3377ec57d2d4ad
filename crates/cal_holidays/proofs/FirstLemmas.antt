-- The first day that one of some rules names.
use Rattle.std.proofs.Common.{◌≡◌, ◌<◌, ◌≤◌, ◌%◌, ◌⊎◌, inl, inr, ℕ, Bool, true, false, List, get_or, Option, Some, None, refl, sym, ap, subst, ◌∙◌, arith, ℤ, ◌≤ℤ◌}
use Rattle.std.specs.Prelude.{option_map}
use Rattle.std.proofs.lemmas.Int.{by_lt_z}
use Rattle.cal_days.proofs.Signed.{by_lt, signed}
use Rattle.cal_holidays.specs.Found.{IsEarlier, IsEarliest, IsNotBefore, pair_of}
use Rattle.cal_holidays.specs.Merging.{BeginsAt, IsAny, IsBefore, IsFirst, IsFirstDay, IsInPlace, IsNamed, Stretch}
use Rattle.cal_holidays.specs.declared.first.First.{First}

-- what isn't before a second, which isn't before a third, isn't before the third
not_before : (a : ℤ) (i : ℕ) (b : ℤ) (j : ℕ) (c : ℤ) (k : ℕ) → (IsBefore a i b j → ⊥) → (IsBefore b j c k → ⊥) → IsBefore a i c k → ⊥
not_before a i b j c k ab bc (inl lt) =
    by_lt_z {P = ⊥} a b (λ l. ab (inl l)) (λ ge. by_lt_z {P = ⊥} b c (λ l. bc (inl l)) (λ more. omega (arith, signed)))
not_before a i b j c k ab bc (inr (same, lt)) =
    by_lt_z {P = ⊥} a b (λ l. ab (inl l)) (λ ge. by_lt_z {P = ⊥} b c (λ l. bc (inl l)) (λ more.
    let ab_same : a ≡ b = omega (arith, signed) in
    let bc_same : b ≡ c = omega (arith, signed) in
    by_lt {P = ⊥} i j (λ l. ab (inr (ab_same, l))) (λ le. bc (inr (bc_same, omega arith)))))

module _ (names : ℕ → ℤ → Bool) (count : ℕ) where
  -- the same of other rules
  restated : (A C : ℕ → Type 0) (s : Stretch) (n : ℤ) (r : ℕ) → (A r → C r) → IsNamed names count A s n r → IsNamed names count C s n r
  restated A C s n r f h = record { rule = h.rule; among = f h.among; named = h.named; from = h.from; on_first = h.on_first; until = h.until }

  -- one of the days on which a rule's days begin or that come after it
  from-begin : (s : Stretch) (rule : ℕ) (from : ℤ) (n : ℤ) → BeginsAt s rule from → s.first ≤ℤ n → (s.first ≡ n → s.first_rule ≤ rule) → from ≤ℤ n
  from-begin s rule from n (inl (le, is)) low on = omega (arith, signed)
  from-begin s rule from n (inr (lt, is)) low on = by_lt_z {P = from ≤ℤ n} s.first n (λ l. omega (arith, signed)) (λ ge.
      let same : s.first ≡ n = omega (arith, signed) in
      let le = on same in absurd (omega arith))

  begins-low : (s : Stretch) (rule : ℕ) (from n : ℤ) → BeginsAt s rule from → from ≤ℤ n → s.first ≤ℤ n
  begins-low s rule from n (inl (le, is)) low = omega (arith, signed)
  begins-low s rule from n (inr (lt, is)) low = omega (arith, signed)

  begins-on : (s : Stretch) (rule : ℕ) (from n : ℤ) → BeginsAt s rule from → from ≤ℤ n → s.first ≡ n → s.first_rule ≤ rule
  begins-on s rule from n (inl (le, is)) low on = le
  begins-on s rule from n (inr (lt, is)) low on = absurd (omega (arith, signed))

  fails : (s : Stretch) (rule : ℕ) (n : ℤ) (r : ℕ) → IsNamed names count (λ q. q ≡ rule) s n r → names rule n ≡ false → ⊥
  fails s rule n r h e =
      let yes : names rule n ≡ true = subst (λ q. names q n ≡ true) h.among h.named in
      let no : true ≡ false = sym yes ∙ e in cc

  -- the first day of one rule
  pub first_of_one : (s : Stretch) (rule : ℕ) (from : ℤ) (day : Option ℤ) → rule < count → BeginsAt s rule from
      → IsFirstDay (names rule) from s.last day → IsFirst names count (λ r. r ≡ rule) s (option_map (λ n. (n, rule)) day)
  first_of_one s rule from None lt begins none = record {
    none = λ e n r h. fails s rule n r h (none n (from-begin s rule from n begins h.from (λ on. subst (λ q. s.first_rule ≤ q) h.among (h.on_first on)), h.until));
    some = λ n r e. absurd cc;
    least = λ n r e m q h before. cc;
  }
  first_of_one s rule from (Some day) lt begins (within, is, before) = record {
    none = λ e n r h. cc;
    some = λ n r e.
        let day_is : day ≡ n = ap first-of e in
        let rule_is : rule ≡ r = ap second-of e in
        subst (λ m. IsNamed names count (λ q. q ≡ rule) s m r) day_is (subst (λ q. IsNamed names count (λ t. t ≡ rule) s day q) rule_is here);
    least = λ n r e m q h earlier.
        let day_is : day ≡ n = ap first-of e in
        let rule_is : rule ≡ r = ap second-of e in
        no day_is rule_is m q h earlier;
  }
    where
      first-of : Option (ℤ × ℕ) → ℤ
      first-of None = day
      first-of (Some p) = p.0

      second-of : Option (ℤ × ℕ) → ℕ
      second-of None = rule
      second-of (Some p) = p.1

      here : IsNamed names count (λ q. q ≡ rule) s day rule
      here = record {
        rule = lt;
        among = refl;
        named = is;
        from = begins-low s rule from day begins within.0;
        on_first = begins-on s rule from day begins within.0;
        until = within.1;
      }

      no : {n : ℤ} {r : ℕ} → day ≡ n → rule ≡ r → (m : ℤ) (q : ℕ) → IsNamed names count (λ t. t ≡ rule) s m q → IsBefore m q n r → ⊥
      no day_is rule_is m q h (inl l) =
          fails s rule m q h (before m (from-begin s rule from m begins h.from (λ on. subst (λ t. s.first_rule ≤ t) h.among (h.on_first on))) (omega (arith, signed)))
      no day_is rule_is m q h (inr (same, l)) = omega (arith, h.among)

  pair-day : {n : ℤ} {r : ℕ} (f : First) → Some (pair_of f) ≡ Some (n, r) → f.day ≡ n
  pair-day f e = ap (λ (o : Option (ℤ × ℕ)). day-of o) e
    where
      day-of : Option (ℤ × ℕ) → ℤ
      day-of None = f.day
      day-of (Some p) = p.0

  pair-rule : {n : ℤ} {r : ℕ} (f : First) → Some (pair_of f) ≡ Some (n, r) → f.rule ≡ r
  pair-rule f e = ap (λ (o : Option (ℤ × ℕ)). rule-of o) e
    where
      rule-of : Option (ℤ × ℕ) → ℕ
      rule-of None = f.rule
      rule-of (Some p) = p.1

  -- a day and a rule, from what names them and what is named before them
  pub first-is : (A : ℕ → Type 0) (s : Stretch) (f : First) → IsNamed names count A s f.day f.rule
      → ((m : ℤ) (q : ℕ) → IsNamed names count A s m q → IsBefore m q f.day f.rule → ⊥) → IsFirst names count A s (Some (pair_of f))
  first-is A s f is least = record {
    none = λ e n r h. absurd cc;
    some = λ n r e. subst (λ m. IsNamed names count A s m r) (pair-day f e) (subst (λ q. IsNamed names count A s f.day q) (pair-rule f e) is);
    least = λ n r e m q h before.
        let back : IsBefore m q f.day f.rule = subst (λ t. IsBefore m q t f.rule) (sym (pair-day f e)) (subst (λ t. IsBefore m q n t) (sym (pair-rule f e)) before) in
        least m q h back;
  }

  pub none-is : (A : ℕ → Type 0) (s : Stretch) → ((m : ℤ) (q : ℕ) → IsNamed names count A s m q → ⊥) → IsFirst names count A s None
  none-is A s none = record {
    none = λ e n r h. none n r h;
    some = λ n r e. absurd cc;
    least = λ n r e m q h before. none m q h;
  }

  -- what some rules name isn't before what isn't after the first of what they name
  behind_first : (A : ℕ → Type 0) (s : Stretch) (a : Option First) (f : First) → IsFirst names count A s (option_map pair_of a) → IsNotBefore a f
      → (m : ℤ) (q : ℕ) → IsNamed names count A s m q → IsBefore m q f.day f.rule → ⊥
  behind_first A s None f is not m q h before = is.none refl m q h
  behind_first A s (Some x) f is not m q h before = not_before m q x.day x.rule f.day f.rule (is.least x.day x.rule refl m q h) not before

  -- the first day of two sets of rules
  pub first_of_two : (A B C : ℕ → Type 0) (s : Stretch) (a b found : Option First)
      → IsFirst names count A s (option_map pair_of a) → IsFirst names count B s (option_map pair_of b)
      → ((r : ℕ) → C r → A r ⊎ B r) → ((r : ℕ) → A r → C r) → ((r : ℕ) → B r → C r)
      → IsEarlier a b found → IsFirst names count C s (option_map pair_of found)
  first_of_two A B C s a b None fa fb cover ca cb (ea, eb) = none-is C s (λ m q h. by (cover q h.among) m h)
    where
      by : {q : ℕ} → A q ⊎ B q → (m : ℤ) → IsNamed names count C s m q → ⊥
      by {q} (inl x) m h = fa.none (ap (option_map pair_of) ea) m q (restated C A s m q (λ _. x) h)
      by {q} (inr x) m h = fb.none (ap (option_map pair_of) eb) m q (restated C B s m q (λ _. x) h)
  first_of_two A B C s a b (Some f) fa fb cover ca cb (which, na, nb) = first-is C s f (here which) (λ m q h before. by (cover q h.among) m h before)
    where
      here : (a ≡ Some f) ⊎ (b ≡ Some f) → IsNamed names count C s f.day f.rule
      here (inl e) = restated A C s f.day f.rule (ca f.rule) (fa.some f.day f.rule (ap (option_map pair_of) e))
      here (inr e) = restated B C s f.day f.rule (cb f.rule) (fb.some f.day f.rule (ap (option_map pair_of) e))

      by : {q : ℕ} → A q ⊎ B q → (m : ℤ) → IsNamed names count C s m q → IsBefore m q f.day f.rule → ⊥
      by {q} (inl x) m h before = behind_first A s a f fa na m q (restated C A s m q (λ _. x) h) before
      by {q} (inr x) m h before = behind_first B s b f fb nb m q (restated C B s m q (λ _. x) h) before

  -- the first day of rules that are the same ones
  pub first_of_same : (A C : ℕ → Type 0) (s : Stretch) (found : Option (ℤ × ℕ)) → ((r : ℕ) → r < count → C r → A r) → ((r : ℕ) → A r → C r)
      → IsFirst names count A s found → IsFirst names count C s found
  first_of_same A C s found back forth is = record {
    none = λ e n r h. is.none e n r (restated C A s n r (back r h.rule) h);
    some = λ n r e. restated A C s n r (forth r) (is.some n r e);
    least = λ n r e m q h. is.least n r e m q (restated C A s m q (back q h.rule) h);
  }

  -- the first day of all rules, from the first day of those of each place
  pub first_of_all : (s : Stretch) (firsts : List (Option First)) (found : Option First)
      → ((place : ℕ) → place < 64 → IsFirst names count (IsInPlace place) s (option_map pair_of (get_or firsts place None)))
      → IsEarliest firsts 64 found → IsFirst names count IsAny s (option_map pair_of found)
  first_of_all s firsts None each none = none-is IsAny s (λ m q h.
      let place : q % 64 < 64 = omega arith in
      (each (q % 64) place).none (ap (option_map pair_of) (none (q % 64) place)) m q (restated IsAny (IsInPlace (q % 64)) s m q (λ _. refl) h))
  first_of_all s firsts (Some f) each ((i, lt, is), not) =
      first-is IsAny s f
      (restated (IsInPlace i) IsAny s f.day f.rule (λ _. tt) ((each i lt).some f.day f.rule (ap (option_map pair_of) is)))
      (λ m q h before.
      let place : q % 64 < 64 = omega arith in
      behind_first (IsInPlace (q % 64)) s (get_or firsts (q % 64) None) f (each (q % 64) place) (not (q % 64) place) m q (restated IsAny (IsInPlace (q % 64)) s m q (λ _. refl) h) before)
