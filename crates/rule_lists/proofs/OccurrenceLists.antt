-- The occurrences of a set whose days are decided: they can be listed, in one way.
use Rattle.std.proofs.Common.{◌≡◌, ◌∙◌, ℕ, zero, suc, ◌+◌, ◌<◌, ◌⊎◌, inl, inr, List, [], ◌∷◌, map, length, get_or, Option, Some, None, refl, sym, ap, ap₂, subst, subst₂, arith, ℤ, pos, negsuc, ◌≤ℤ◌, ◌<ℤ◌}
use Rattle.std.specs.Prelude.{AllPairs, Contains}
use Rattle.std.specs.Option.{ForSome}
use Rattle.std.proofs.lemmas.List.{get_or-map, length-map}
use Rattle.std.proofs.lemmas.List.Elements.{Contains-get_or}
use Rattle.cal_days.specs.Day.{IsBetween}
use Rattle.cal_days.proofs.Signed.{signed}
use Rattle.recurrence_sets.specs.Days.{AreDays, HasCount}
use Rattle.recurrence_sets.specs.Occurrences.{AreOccurrences, Occurs, Recurs}
use Rattle.recurrence_sets.specs.declared.bounds.Bounds.{Bounds}
use Rattle.recurrence_sets.specs.declared.occurrence.Occurrence.{Occurrence}
use Rattle.recurrence_sets.proofs.DayLemmas.{count-push, count-unique, count-within}
use Rattle.rule_lists.proofs.DayCounts.{count-finds, days-between}
use Rattle.rule_lists.proofs.Deciding.{both, is_less, is_less_z, is_most_z, like}

-- ---- lists

-- what is in a list is the first item or a later one
cons-cases : {A : Type 0} (x : A) (xs : List A) (y : A) → Contains (x ∷ xs) y → (x ≡ y) ⊎ Contains xs y
cons-cases x xs y (zero, lt, e) = inl e
cons-cases x xs y (suc k, lt, e) = inr (k, omega (arith, lt), e)

-- the first item is in the list
cons-first : {A : Type 0} (x : A) (xs : List A) → Contains (x ∷ xs) x
cons-first x xs = (0, omega arith, refl)

-- and so is a later one
cons-later : {A : Type 0} (x : A) (xs : List A) (y : A) → Contains xs y → Contains (x ∷ xs) y
cons-later x xs y (k, lt, e) = (suc k, omega (arith, lt), e)

-- nothing is in the empty list
none-contained : {A B : Type 0} (y : A) → Contains [] y → B
none-contained y has = absurd (omega (arith, has.1))

module _ {A : Type 0} (R : A → A → Type 0) (never : (x y : A) → R x y → R y x → ⊥) where
  -- the first item of a list stands in the relation to each later one
  first-pairs : (x : A) (xs : List A) → AllPairs R (x ∷ xs) → (y : A) → Contains xs y → R x y
  first-pairs x xs pairs y (k, lt, e) = subst (R x) e (pairs 0 (suc k) y (omega arith) (omega (arith, lt)))

  -- and the later ones stand in it too
  later-pairs : (x : A) (xs : List A) → AllPairs R (x ∷ xs) → AllPairs R xs
  later-pairs x xs pairs i j d lt within = pairs (suc i) (suc j) d (omega (arith, lt)) (omega (arith, within))

  -- the first items of two such lists are one
  same-first : (x y : A) (xs ys : List A) → AllPairs R (x ∷ xs) → AllPairs R (y ∷ ys) →
      Contains (y ∷ ys) x → Contains (x ∷ xs) y → x ≡ y
  same-first x y xs ys rising rises one two = by_case (cons-cases y ys x one) (cons-cases x xs y two) where
    by_case : (y ≡ x) ⊎ Contains ys x → (x ≡ y) ⊎ Contains xs y → x ≡ y
    by_case (inl e) other = sym e
    by_case (inr late) (inl e) = e
    by_case (inr late) (inr later) =
        absurd (never x y (first-pairs x xs rising y later) (first-pairs y ys rises x late))

  -- an item behind the first is behind the first of the other list
  same-later : (x y : A) (xs ys : List A) → AllPairs R (x ∷ xs) → x ≡ y →
      ((z : A) → Contains (x ∷ xs) z → Contains (y ∷ ys) z) → (z : A) → Contains xs z → Contains ys z
  same-later x y xs ys rising same to z has = by_case (cons-cases y ys z (to z (cons-later x xs z has))) where
    by_case : (y ≡ z) ⊎ Contains ys z → Contains ys z
    by_case (inl e) =
        let self = subst (R x) (sym (same ∙ e)) (first-pairs x xs rising z has) in
        absurd (never x x self self)
    by_case (inr later) = later

  -- two lists of the same items, in the same strict order, are one
  same-lists : (xs ys : List A) → AllPairs R xs → AllPairs R ys → ((z : A) → Contains xs z → Contains ys z) →
      ((z : A) → Contains ys z → Contains xs z) → xs ≡ ys
  same-lists [] [] rising rises to from = refl
  same-lists [] (y ∷ ys) rising rises to from = none-contained y (from y (cons-first y ys))
  same-lists (x ∷ xs) [] rising rises to from = none-contained x (to x (cons-first x xs))
  same-lists (x ∷ xs) (y ∷ ys) rising rises to from =
      let same = same-first x y xs ys rising rises (to x (cons-first x xs)) (from y (cons-first y ys)) in
      ap₂ (λ (z : A) (zs : List A). z ∷ zs) same
      (same-lists xs ys (later-pairs x xs rising) (later-pairs y ys rises)
      (same-later x y xs ys rising same to) (same-later y x ys xs rises (sym same) from))

module _ {A B : Type 0} (f : A → B) where
  -- what is made from the items of a list is made from one of them
  map-out : (xs : List A) (y : B) → Contains (map f xs) y → (x : A) × Contains xs x × (f x ≡ y)
  map-out [] y has = none-contained y has
  map-out (x ∷ xs) y (zero, lt, e) = (x, cons-first x xs, e)
  map-out (x ∷ xs) y (suc k, lt, e) =
      let (z, has, is) = map-out xs y (k, omega (arith, lt), e) in
      (z, cons-later x xs z has, is)

  -- and what is made from one of them is in the list of all
  map-into : (xs : List A) (x : A) → Contains xs x → Contains (map f xs) (f x)
  map-into xs x (k, lt, e) = (k, omega (arith, lt, length-map xs f), get_or-map f xs k x (f x) lt ∙ ap f e)

  -- items that are made stand in a relation, if those that they are made from stand in another
  map-pairs : (S : A → A → Type 0) (R : B → B → Type 0) (xs : List A) (d : A) →
      ((x y : A) → Contains xs x → Contains xs y → S x y → R (f x) (f y)) → AllPairs S xs → AllPairs R (map f xs)
  map-pairs S R xs d carry pairs i j e lt within =
      let last : j < length xs = omega (arith, within, length-map xs f) in
      let first : i < length xs = omega (arith, lt, last) in
      subst₂ R (sym (get_or-map f xs i d e first)) (sym (get_or-map f xs j d e last))
      (carry (get_or xs i d) (get_or xs j d) (Contains-get_or xs i d first) (Contains-get_or xs j d last)
      (pairs i j d lt last))

-- ---- occurrences

-- it is decided whether a value meets a test, if there is one
for-decided : {A : Type 0} {P : A → Type 0} → ((x : A) → Dec (P x)) → (o : Option A) → Dec (ForSome o P)
for-decided decide None = yes (λ x e. cc)
for-decided {A} {P} decide (Some x) = like to (λ all. all x refl) (decide x) where
  to : P x → ForSome (Some x) P
  to p y e = let same : x ≡ y = cc in subst P same p

module _ (Is : ℤ → Type 0) (b : Bounds) where
  -- a day on which the set recurs, before another
  abbrev IsBefore : ℤ → ℤ → Type 0
  IsBefore n m = Recurs Is b m × (m <ℤ n)

  -- a later occurrence has a greater index
  index-rises : (i j : ℕ) (m n : ℤ) → Occurs Is b i m → Occurs Is b j n → m <ℤ n → i < j
  index-rises i j m n p q late =
      let more = count-push (IsBefore m) (λ l. IsBefore m l ⊎ (m ≡ l)) i m
      (λ l h. h.1) (inr refl) (λ l h. inl h) (λ l h. h) p.counted in
      let most = count-within (λ l. IsBefore m l ⊎ (m ≡ l)) (IsBefore n) (i + 1) j earlier more q.counted in
      omega (arith, most)
    where
      earlier : (l : ℤ) → IsBefore m l ⊎ (m ≡ l) → IsBefore n l
      earlier l (inl h) = (h.0, omega (arith, signed, h.1, late))
      earlier l (inr same) = subst (IsBefore n) same (p.recurs, late)

  -- days have one list of occurrences
  pub occurrences-unique : (first last : ℤ) (xs ys : List Occurrence) →
      AreOccurrences Is b first last xs → AreOccurrences Is b first last ys → xs ≡ ys
  occurrences-unique first last xs ys one two =
      same-lists (λ x y. (x.index < y.index) × (x.day <ℤ y.day)) (λ x y p q. omega (arith, p.0, q.0))
      xs ys one.rising two.rising
      (λ x has. (two.exact x).1 ((one.exact x).0 has))
      (λ x has. (one.exact x).1 ((two.exact x).0 has))

module _ (Is : ℤ → Type 0) (decide : (n : ℤ) → Dec (Is n)) (b : Bounds) where
  -- it is decided whether the set recurs on a day
  pub recurs-decided : (n : ℤ) → Dec (Recurs Is b n)
  recurs-decided n =
      like
      (λ (kept, (started, (valid, ended))). record { kept = kept; started = started; valid = valid; ended = ended })
      (λ h. (h.kept, (h.started, (h.valid, h.ended))))
      (both (decide n) (both (is_most_z b.start n)
      (both (both (is_most_z (negsuc 365242498) n) (is_most_z n (pos 365242134)))
      (for-decided {P = λ last. n ≤ℤ last} (λ last. is_most_z n last) b.until))))

  -- how many days on which the set recurs are before another
  pub counted : (n : ℤ) → (i : ℕ) × HasCount (IsBefore Is b n) i
  counted n =
      count-finds (IsBefore Is b n) (λ m. both (recurs-decided m) (is_less_z m n))
      (negsuc 365242498) (pos 365242134) (λ m h. h.0.valid)

  -- what occurs on a day, if anything does
  abbrev item : ℤ → Occurrence
  item n = record { index = (counted n).0; day = n }

  -- it is decided whether something occurs on a day
  occurs-decided : (n : ℤ) → Dec (Occurs Is b (item n).index n)
  occurs-decided n =
      like
      (λ (recurs, few). record { recurs = recurs; counted = (counted n).1; few = few })
      (λ h. (h.recurs, h.few))
      (both (recurs-decided n)
      (for-decided {P = λ count. (item n).index < count} (λ count. is_less (item n).index count) b.count))

  -- an occurrence is the one of its day
  item-own : (x : Occurrence) → Occurs Is b x.index x.day → item x.day ≡ x
  item-own x occurs =
      ap (λ (i : ℕ). record { index = i; day = x.day })
      (count-unique (IsBefore Is b x.day) (counted x.day).0 x.index (counted x.day).1 occurs.counted)

  -- it is decided whether anything occurs on a day
  pub some-decided : (n : ℤ) → Dec ((index : ℕ) × Occurs Is b index n)
  some-decided n =
      like (λ occurs. ((item n).index, occurs))
      (λ (index, occurs). subst (λ (x : Occurrence). Occurs Is b x.index n) (sym (item-own (record { index = index; day = n }) occurs)) occurs)
      (occurs-decided n)

  module _ (first last : ℤ) where
    -- something occurs on a day from the first to the last
    abbrev IsKept : ℤ → Type 0
    IsKept n = Occurs Is b (counted n).0 n × IsBetween first last n

    -- an occurrence is on such a day
    kept-own : (x : Occurrence) → Occurs Is b x.index x.day → IsBetween first last x.day → IsKept x.day
    kept-own x occurs within =
        (subst (λ (y : Occurrence). Occurs Is b y.index y.day) (sym (item-own x occurs)) occurs, within)

    -- what occurs on these days are the occurrences
    items-are : (days : List ℤ) → AreDays IsKept days → AreOccurrences Is b first last (map item days)
    items-are days are = record {
      rising = map-pairs item (λ m n. m <ℤ n) (λ x y. (x.index < y.index) × (x.day <ℤ y.day)) days (pos 0)
          carry are.rising;
      exact = λ x. (out x, into x);
    } where
      carry : (m n : ℤ) → Contains days m → Contains days n → m <ℤ n → ((counted m).0 < (counted n).0) × (m <ℤ n)
      carry m n one two late =
          (index-rises Is b (counted m).0 (counted n).0 m n ((are.exact m).0 one).0 ((are.exact n).0 two).0 late, late)

      out : (x : Occurrence) → Contains (map item days) x → Occurs Is b x.index x.day × IsBetween first last x.day
      out x has =
          let (n, within, same) = map-out item days x has in
          subst (λ (y : Occurrence). Occurs Is b y.index y.day × IsBetween first last y.day) same
          ((are.exact n).0 within)

      into : (x : Occurrence) → Occurs Is b x.index x.day × IsBetween first last x.day → Contains (map item days) x
      into x (occurs, within) =
          subst (Contains (map item days)) (item-own x occurs)
          (map-into item days x.day ((are.exact x.day).1 (kept-own x occurs within)))

    -- the occurrences from one day to another can be listed
    pub occurrences-exist : (xs : List Occurrence) × AreOccurrences Is b first last xs
    occurrences-exist =
        let (days, are) = days-between (λ n. Occurs Is b (counted n).0 n) occurs-decided first last in
        (map item days, items-are days are)
