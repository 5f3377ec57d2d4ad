-- The first days that are kept stay the first ones behind an item, but in its own place.
use Rattle.std.proofs.Common.{◌≡◌, ◌≢◌, ◌<◌, ◌≤◌, ◌+◌, ◌%◌, ◌⊎◌, inl, inr, ℕ, Bool, true, false, List, length, get_or, slice_set, Option, Some, None, if◌then◌else◌, refl, sym, ap, subst, arith, ℤ, pos, ◌+ℤ◌, ◌≤ℤ◌}
use Rattle.std.specs.Prelude.{int_lt, nat_lt, option_map}
use borrow.Author.Tests.{ltb-false}
use Rattle.std.proofs.lemmas.Int.{by_lt_z}
use Rattle.std.proofs.lemmas.List.{get_or-set_other, get_or-set_same}
use Rattle.cal_days.proofs.Signed.{by_lt, signed}
use Rattle.cal_holidays.specs.Found.{IsEarliest, pair_of, stretch_of}
use Rattle.cal_holidays.specs.Kept.{AreKept}
use Rattle.cal_holidays.specs.Listing.{left_of}
use Rattle.cal_holidays.specs.Merging.{IsAny, IsBefore, IsFirst, IsInPlace, IsNamed, Stretch, behind, listed_left}
use Rattle.cal_holidays.specs.declared.first.First.{First}
use Rattle.cal_holidays.specs.declared.rest.Rest.{Rest}
use Rattle.cal_holidays.proofs.FirstLemmas.{first_of_all}

-- a stretch begins right behind a day and a rule
record IsBehind (count : ℕ) (s t : Stretch) (n : ℤ) (r : ℕ) : Type 0 where
  last : t.last ≡ s.last
  start : ((t.first ≡ n) × (t.first_rule ≡ r + 1)) ⊎ ((count ≤ r + 1) × (t.first ≡ n +ℤ pos 1) × (t.first_rule ≡ 0))

behind-is : (count : ℕ) (s t : Stretch) (n : ℤ) (r : ℕ) → behind count s n r ≡ Some t → IsBehind count s t n r
behind-is count s t n r e = by (nat_lt (r + 1) count) refl (int_lt n s.last) e
  where
    here : Stretch
    here = record { first = n; last = s.last; first_rule = r + 1 }

    next : Stretch
    next = record { first = n +ℤ pos 1; last = s.last; first_rule = 0 }

    by : (a : Bool) → nat_lt (r + 1) count ≡ a → (b : Bool)
        → (if a then Some (record { first = n; last = s.last; first_rule = r + 1 }) else if b then Some (record { first = n +ℤ pos 1; last = s.last; first_rule = 0 }) else None) ≡ Some t
        → IsBehind count s t n r
    by true is b h =
        let same : here ≡ t = cc in
        record { last = ap (λ (u : Stretch). u.last) (sym same); start = inl (ap (λ (u : Stretch). u.first) (sym same), ap (λ (u : Stretch). u.first_rule) (sym same)) }
    by false is true h =
        let same : next ≡ t = cc in
        let all : count ≤ r + 1 = ltb-false (r + 1) count is in
        record { last = ap (λ (u : Stretch). u.last) (sym same); start = inr (all, ap (λ (u : Stretch). u.first) (sym same), ap (λ (u : Stretch). u.first_rule) (sym same)) }
    by false is false h = absurd cc

module _ (names : ℕ → ℤ → Bool) (count : ℕ) (A : ℕ → Type 0) (s t : Stretch) (n : ℤ) (r : ℕ) (b : IsBehind count s t n r) where
  -- what is named behind an item is named in the whole stretch
  sub : s.first ≤ℤ n → (s.first ≡ n → s.first_rule ≤ r) → (m : ℤ) (q : ℕ) → IsNamed names count A t m q → IsNamed names count A s m q
  sub low on m q h = record {
    rule = h.rule;
    among = h.among;
    named = h.named;
    from = from b.start;
    on_first = on_first b.start;
    until = omega (arith, signed, h.until, b.last);
  }
    where
      from : ((t.first ≡ n) × (t.first_rule ≡ r + 1)) ⊎ ((count ≤ r + 1) × (t.first ≡ n +ℤ pos 1) × (t.first_rule ≡ 0)) → s.first ≤ℤ m
      from (inl (first, rule)) = omega (arith, signed, h.from)
      from (inr (all, first, rule)) = omega (arith, signed, h.from)

      on_first : ((t.first ≡ n) × (t.first_rule ≡ r + 1)) ⊎ ((count ≤ r + 1) × (t.first ≡ n +ℤ pos 1) × (t.first_rule ≡ 0)) → s.first ≡ m → s.first_rule ≤ q
      on_first (inl (first, rule)) same =
          let there : t.first ≡ m = omega (arith, signed, h.from) in
          let begins : s.first ≡ n = omega (arith, signed) in
          omega (arith, h.on_first there, on begins)
      on_first (inr (all, first, rule)) same = absurd (omega (arith, signed, h.from))

  -- what is named in the whole stretch, and isn't the item nor before it, is named behind it
  sup : (m : ℤ) (q : ℕ) → IsNamed names count A s m q → (IsBefore m q n r → ⊥) → (q ≡ r → ⊥) → IsNamed names count A t m q
  sup m q h not other = record {
    rule = h.rule;
    among = h.among;
    named = h.named;
    from = from b.start;
    on_first = on_first b.start;
    until = omega (arith, signed, h.until, b.last);
  }
    where
      not_earlier : n ≤ℤ m
      not_earlier = by_lt_z {P = n ≤ℤ m} m n (λ lt. absurd (not (inl lt))) (λ ge. ge)

      behind_rule : m ≡ n → r < q
      behind_rule same = by_lt {P = r < q} q r (λ lt. absurd (not (inr (same, lt)))) (λ ge. by_lt {P = r < q} r q (λ lt. lt) (λ le. absurd (other (omega arith))))

      from : ((t.first ≡ n) × (t.first_rule ≡ r + 1)) ⊎ ((count ≤ r + 1) × (t.first ≡ n +ℤ pos 1) × (t.first_rule ≡ 0)) → t.first ≤ℤ m
      from (inl (first, rule)) = omega (arith, signed, not_earlier)
      from (inr (all, first, rule)) = by_lt_z {P = t.first ≤ℤ m} n m (λ lt. omega (arith, signed)) (λ ge.
          let same : m ≡ n = omega (arith, signed, not_earlier) in
          let past = behind_rule same in absurd (omega (arith, h.rule)))

      on_first : ((t.first ≡ n) × (t.first_rule ≡ r + 1)) ⊎ ((count ≤ r + 1) × (t.first ≡ n +ℤ pos 1) × (t.first_rule ≡ 0)) → t.first ≡ m → t.first_rule ≤ q
      on_first (inl (first, rule)) same = let past = behind_rule (omega (arith, signed)) in omega arith
      on_first (inr (all, first, rule)) same = omega arith

module _ (names : ℕ → ℤ → Bool) (count : ℕ) where
  any : (A : ℕ → Type 0) (s : Stretch) (m : ℤ) (q : ℕ) → IsNamed names count A s m q → IsNamed names count IsAny s m q
  any A s m q h = record { rule = h.rule; among = tt; named = h.named; from = h.from; on_first = h.on_first; until = h.until }

  -- the first day of rules of which the item's isn't one stays
  still : (A : ℕ → Type 0) (s t : Stretch) (n : ℤ) (r : ℕ) (found : Option (ℤ × ℕ)) → IsFirst names count IsAny s (Some (n, r)) → IsBehind count s t n r → (A r → ⊥)
      → IsFirst names count A s found → IsFirst names count A t found
  still A s t n r found item b not is =
      let here = item.some n r refl in
      record {
        none = λ e m q h. is.none e m q (sub names count A s t n r b here.from here.on_first m q h);
        some = λ m q e.
            let there = is.some m q e in
            sup names count A s t n r b m q there (item.least n r refl m q (any A s m q there)) (λ same. not (subst A same there.among));
        least = λ m q e k p h. is.least m q e k p (sub names count A s t n r b here.from here.on_first k p h);
      }

  -- the places behind an item, where that of its own rule is changed
  pub kept_behind : (s t : Stretch) (firsts : List (Option First)) (f : First) (new : Option First) → length firsts ≡ 64
      → ((place : ℕ) → place < 64 → IsFirst names count (IsInPlace place) s (option_map pair_of (get_or firsts place None)))
      → IsFirst names count IsAny s (Some (f.day, f.rule)) → behind count s f.day f.rule ≡ Some t
      → IsFirst names count (IsInPlace (f.rule % 64)) t (option_map pair_of new)
      → (place : ℕ) → place < 64 → IsFirst names count (IsInPlace place) t (option_map pair_of (get_or (slice_set firsts (f.rule % 64) new) place None))
  kept_behind s t firsts f new size each item e changed place lt =
      by_lt {P = IsFirst names count (IsInPlace place) t (option_map pair_of (get_or (slice_set firsts (f.rule % 64) new) place None))} place (f.rule % 64)
      (λ less. other (λ same. omega arith))
      (λ ge. by_lt {P = IsFirst names count (IsInPlace place) t (option_map pair_of (get_or (slice_set firsts (f.rule % 64) new) place None))} (f.rule % 64) place
      (λ more. other (λ same. omega arith))
      (λ le. let same : f.rule % 64 ≡ place = omega arith in here same))
    where
      other : place ≢ f.rule % 64 → IsFirst names count (IsInPlace place) t (option_map pair_of (get_or (slice_set firsts (f.rule % 64) new) place None))
      other differ =
          subst (λ o. IsFirst names count (IsInPlace place) t (option_map pair_of o)) (sym (get_or-set_other firsts (f.rule % 64) place new None differ))
          (still (IsInPlace place) s t f.day f.rule (option_map pair_of (get_or firsts place None)) item (behind-is count s t f.day f.rule e) (λ same. differ (sym same)) (each place lt))

      here : f.rule % 64 ≡ place → IsFirst names count (IsInPlace place) t (option_map pair_of (get_or (slice_set firsts (f.rule % 64) new) place None))
      here same =
          let within : f.rule % 64 < length firsts = omega (arith, size) in
          subst (λ p. IsFirst names count (IsInPlace p) t (option_map pair_of (get_or (slice_set firsts (f.rule % 64) new) p None))) same
          (subst (λ o. IsFirst names count (IsInPlace (f.rule % 64)) t (option_map pair_of o)) (sym (get_or-set_same firsts (f.rule % 64) new None within)) changed)

  -- one place more
  pub kept_next : (s : Stretch) (firsts : List (Option First)) (n : ℕ) (new : Option First) → n < length firsts
      → ((place : ℕ) → place < n → IsFirst names count (IsInPlace place) s (option_map pair_of (get_or firsts place None)))
      → IsFirst names count (IsInPlace n) s (option_map pair_of new)
      → (place : ℕ) → place < n + 1 → IsFirst names count (IsInPlace place) s (option_map pair_of (get_or (slice_set firsts n new) place None))
  kept_next s firsts n new within each here place lt =
      by_lt {P = IsFirst names count (IsInPlace place) s (option_map pair_of (get_or (slice_set firsts n new) place None))} place n
      (λ less. subst (λ o. IsFirst names count (IsInPlace place) s (option_map pair_of o)) (sym (get_or-set_other firsts n place new None (λ same. omega arith))) (each place less))
      (λ ge.
      let same : n ≡ place = omega arith in
      subst (λ p. IsFirst names count (IsInPlace p) s (option_map pair_of (get_or (slice_set firsts n new) p None))) same
      (subst (λ o. IsFirst names count (IsInPlace n) s (option_map pair_of o)) (sym (get_or-set_same firsts n new None within)) here))

  -- the earliest day that is kept is the first one of what is left
  pub first_kept : (left : Option Rest) (rest : Rest) (firsts : List (Option First)) (found : Option First) → length firsts ≡ 64
      → AreKept names count left firsts → left ≡ Some rest → IsEarliest firsts (length firsts) found → IsFirst names count IsAny (stretch_of rest) (option_map pair_of found)
  first_kept left rest firsts found size kept is earliest =
      first_of_all names count (stretch_of rest) firsts found (kept rest is) (subst (λ k. IsEarliest firsts k found) size earliest)

-- what is left behind an item, of rules that are the same as before
pub left-behind : {X : Type 0} (names_of : X → ℕ → ℤ → Bool) (count_of : X → ℕ) (x y : X) (s : Stretch) (n : ℤ) (r : ℕ) (rest : Option Rest)
    → y ≡ x → option_map stretch_of rest ≡ behind (count_of y) s n r
    → listed_left (names_of x) (count_of x) (behind (count_of x) s n r) ≡ left_of (names_of y) (count_of y) rest
left-behind names_of count_of x y s n r rest same e =
    subst (λ z. listed_left (names_of z) (count_of z) (behind (count_of z) s n r) ≡ left_of (names_of y) (count_of y) rest) same
    (ap (listed_left (names_of y) (count_of y)) (sym e))
