-- The occurrences that are left, from the first one on.
use Rattle.std.proofs.Common.{◌≡◌, ◌∙◌, ℕ, zero, suc, ◌+◌, ◌<◌, ◌≤◌, ◌⊎◌, inl, inr, true, false, List, [], ◌∷◌, get_or, Option, Some, None, refl, sym, ap₂, subst, subst₂, arith, ℤ, pos, negsuc, ◌+ℤ◌, ◌≤ℤ◌, ◌<ℤ◌}
use Rattle.std.specs.Prelude.{⊤, AllPairs, Contains, IfSome, IsSome, IsTrue, ◌↔◌}
use Rattle.std.specs.Iterator.{MakesProgress, at_most}
use Rattle.std.specs.Option.{ForSome}
use Rattle.std.proofs.lemmas.Bool.Decides.{nat_tests}
use Rattle.std.proofs.lemmas.Int.{by_lt_z, ints}
use Rattle.std.proofs.lemmas.List.Elements.{Contains-get_or}
use Rattle.cal_days.specs.Day.{IsBetween, IsValidDay}
use Rattle.cal_days.proofs.Signed.{signed}
use Rattle.cal_types.specs.WindowDays.{IsAfter}
use Rattle.cal_types.specs.Windows.{IsWindow}
use Rattle.cal_types.specs.declared.window.Window.{Window}
use Rattle.recurrence_sets.specs.Bounds.{IsBoundedIn, IsRestOf, IsWithin, has_all, later}
use Rattle.recurrence_sets.specs.Days.{IsFirstOf}
use Rattle.recurrence_sets.specs.Listing.{AreLooks, ArePassed, GoesOn, HasBefore, IsFirstLeft, IsListing, NoneLeft, days_left}
use Rattle.recurrence_sets.specs.Occurrences.{AreLeft, AreOccurrences, IsOfSome, Occurs, Recurs}
use Rattle.recurrence_sets.specs.Passing.{HasPassed, IsFullBefore, IsPassing}
use Rattle.recurrence_sets.specs.declared.bounds.Bounds.{Bounds}
use Rattle.recurrence_sets.specs.declared.looks.Looks.{Looks}
use Rattle.recurrence_sets.specs.declared.occurrence.Occurrence.{Occurrence}
use Rattle.recurrence_sets.specs.declared.passing.Passed.{Passed}
use Rattle.recurrence_sets.proofs.DayLemmas.{count-like, count-push, count-span, count-unique, count-within}

-- ---- lists with one item more

cons-cases : {A : Type 0} (x : A) (xs : List A) (y : A) → Contains (x ∷ xs) y → (x ≡ y) ⊎ Contains xs y
cons-cases x xs y (zero, lt, e) = inl e
cons-cases x xs y (suc k, lt, e) = inr (k, omega (arith, lt), e)

cons-first : {A : Type 0} (x : A) (xs : List A) → Contains (x ∷ xs) x
cons-first x xs = (0, omega arith, refl)

cons-later : {A : Type 0} (x : A) (xs : List A) (y : A) → Contains xs y → Contains (x ∷ xs) y
cons-later x xs y (k, lt, e) = (suc k, omega (arith, lt), e)

none-contained : {A : Type 0} (y : A) → ¬ (Contains [] y)
none-contained y has = absurd (omega (arith, has.1))

pairs-cons : {A : Type 0} (R : A → A → Type 0) (x : A) (xs : List A) → AllPairs R xs → ((y : A) → Contains xs y → R x y) → AllPairs R (x ∷ xs)
pairs-cons R x xs pairs first zero zero d lt within = absurd (omega (arith, lt))
pairs-cons R x xs pairs first zero (suc j) d lt within = first (get_or xs j d) (Contains-get_or xs j d (omega (arith, within)))
pairs-cons R x xs pairs first (suc i) zero d lt within = absurd (omega (arith, lt))
pairs-cons R x xs pairs first (suc i) (suc j) d lt within = pairs i j d (omega (arith, lt)) (omega (arith, within))

-- ---- bounds

all-few : (most : Option ℕ) (i k : ℕ) → has_all most i ≡ true → i ≤ k → ForSome most (λ c. k < c) → ⊥
all-few None i k all le few = cc
all-few (Some c) i k all le few = let more : c ≤ i = grind (arith, nat_tests, all) in absurd (omega (arith, more, le, few c refl))

few-of : (most : Option ℕ) (i : ℕ) → has_all most i ≡ false → ForSome most (λ c. i < c)
few-of None i all c e = cc
few-of (Some m) i all c e = let less : i < m = grind (arith, nat_tests, all) in let same : m ≡ c = cc in omega (arith, less, same)

later-both : (m n z : ℤ) → later m n ≤ℤ z → (m ≤ℤ z) × (n ≤ℤ z)
later-both m n z le = (grind (arith, ints, le), grind (arith, ints, le))

both-later : (m n z : ℤ) → m ≤ℤ z → n ≤ℤ z → later m n ≤ℤ z
both-later m n z a b = grind (arith, ints, a, b)

module _ (Is : ℤ → Type 0) (b : Bounds) where
  pub bounded : (w : Window) (k : ℕ) (n : ℤ) → Occurs Is b k n → IsBetween w.first w.last n → IsBoundedIn b w n
  bounded w k n occurs within = record { within = within; started = occurs.recurs.started; ended = occurs.recurs.ended }

  -- the occurrences in what is left of a window are those in the window
  pub items-within : (w rest : Window) → IsRestOf b w rest → (xs : List Occurrence) →
      AreLeft Is b (Some rest) xs ↔ AreOccurrences Is b w.first w.last xs
  items-within w rest is xs = (
    λ are. record {
      rising = are.rising;
      exact = λ x. (
        λ has. let o = (are.exact x).0 has in (o.0, ((is.exact x.day).0 o.1).within),
        λ o. (are.exact x).1 (o.0, (is.exact x.day).1 (bounded w x.index x.day o.0 o.1)),
      );
    },
    λ are. record {
      rising = are.rising;
      exact = λ x. (
        λ has. let o = (are.exact x).0 has in (o.0, (is.exact x.day).1 (bounded w x.index x.day o.0 o.1)),
        λ o. (are.exact x).1 (o.0, ((is.exact x.day).0 o.1).within),
      );
    },
  )

  no-items : (first last : ℤ) → ((k : ℕ) (n : ℤ) → IsBetween first last n → ¬ (Occurs Is b k n)) → AreOccurrences Is b first last []
  no-items first last none = record {
    rising = λ i j d lt within. absurd (omega (arith, within));
    exact = λ x. (λ has. absurd (none-contained x has), λ o. absurd (none x.index x.day o.1 o.0));
  }

  is-empty : (first last : ℤ) → ((k : ℕ) (n : ℤ) → IsBetween first last n → ¬ (Occurs Is b k n)) → (xs : List Occurrence) →
      AreOccurrences Is b first last xs → xs ≡ []
  is-empty first last none [] are = refl
  is-empty first last none (x ∷ xs) are = let o = (are.exact x).0 (cons-first x xs) in absurd (none x.index x.day o.1 o.0)

  -- where no occurrence is, none is left
  pub items-none : (first last : ℤ) → ((k : ℕ) (n : ℤ) → IsBetween first last n → ¬ (Occurs Is b k n)) → (xs : List Occurrence) →
      AreLeft Is b None xs ↔ AreOccurrences Is b first last xs
  items-none first last none xs =
      (λ e. subst (AreOccurrences Is b first last) (sym e) (no-items first last none), is-empty first last none xs)

  -- none is where no day is within the bounds
  pub none-bounded : (w : Window) → ((n : ℤ) → ¬ (IsBoundedIn b w n)) → (k : ℕ) (n : ℤ) → IsBetween w.first w.last n → ¬ (Occurs Is b k n)
  none-bounded w none k n within occurs = none n (bounded w k n occurs within)

  -- what was passed from the start on is all that lies before
  pub before-of_passed : (day : ℤ) (index : ℕ) → IsValidDay day → ForSome b.until (λ last. day ≤ℤ last) →
      HasPassed Is (later (negsuc 365242498) b.start) day index → HasBefore Is b day index
  before-of_passed day index valid ended count =
      count-like (λ m. Is m × (later (negsuc 365242498) b.start ≤ℤ m) × (m <ℤ day)) (λ m. Recurs Is b m × (m <ℤ day)) index
      (λ m h. let low = later-both (negsuc 365242498) b.start m h.1 in (
        record {
          kept = h.0;
          started = low.1;
          valid = (low.0, omega (arith, signed, h.2, valid));
          ended = λ last e. omega (arith, signed, h.2, ended last e);
        },
        h.2,
      ))
      (λ m h. (h.0.kept, both-later (negsuc 365242498) b.start m h.0.valid.0 h.0.started, h.1)) count

  -- as many as there may be before a day leave none from it on
  pub none-full : (next day last : ℤ) (index : ℕ) → next ≤ℤ day → IsValidDay day → ForSome b.until (λ until. day ≤ℤ until) →
      HasPassed Is (later (negsuc 365242498) b.start) next index → IsTrue (has_all b.count index) →
      (k : ℕ) (n : ℤ) → IsBetween day last n → ¬ (Occurs Is b k n)
  none-full next day last index order valid ended count full k n within occurs =
      let fewer = count-within (λ m. Is m × (later (negsuc 365242498) b.start ≤ℤ m) × (m <ℤ next)) (λ m. Recurs Is b m × (m <ℤ n)) index k
      (λ m h. let low = later-both (negsuc 365242498) b.start m h.1 in (
        record {
          kept = h.0;
          started = low.1;
          valid = (low.0, omega (arith, signed, h.2, order, valid));
          ended = λ until e. omega (arith, signed, h.2, order, ended until e);
        },
        omega (arith, signed, h.2, order, within.0),
      )) count occurs.counted in
      all-few b.count index k full fewer occurs.few

  -- the count of days before a window's part within the bounds is that before the window
  pub before-rest : (w rest : Window) (index : ℕ) → IsRestOf b w rest → HasBefore Is b w.first index → HasBefore Is b rest.first index
  before-rest w rest index is count =
      count-like (λ m. Recurs Is b m × (m <ℤ w.first)) (λ m. Recurs Is b m × (m <ℤ rest.first)) index
      (λ m h. (h.0, omega (arith, signed, h.1, is.reached)))
      (λ m h. (h.0, by_lt_z {P = m <ℤ w.first} m w.first (λ lt. lt) (λ ge. outside m h.0 h.1 ge))) count where
        outside : (m : ℤ) → Recurs Is b m → m <ℤ rest.first → w.first ≤ℤ m → m <ℤ w.first
        outside m recurs low high =
            let end = (is.exact rest.last).0 (rest.days.order, omega (arith, signed)) in
            let here = (is.exact m).1 (record { within = (high, omega (arith, signed, low, rest.days.order, end.within.1)); started = recurs.started; ended = recurs.ended }) in
            absurd (omega (arith, signed, here.0, low))

-- ---- the next occurrence

module _ (Is : ℤ → Type 0) (b : Bounds) (w : Window) (index : ℕ) (started : b.start ≤ℤ w.first) (ended : ForSome b.until (λ last. w.last ≤ℤ last))
    (counted : HasBefore Is b w.first index) where
  recurs-of : (n : ℤ) → IsBetween w.first w.last n → Is n → Recurs Is b n
  recurs-of n within is = record {
    kept = is;
    started = omega (arith, signed, started, within.0);
    valid = (omega (arith, signed, w.days.from, within.0), omega (arith, signed, w.days.to, within.1));
    ended = λ last e. omega (arith, signed, ended last e, within.1);
  }

  pub none-left : ((n : ℤ) → IsBetween w.first w.last n → ¬ (Is n)) → NoneLeft Is b w
  none-left none k n within occurs = none n within occurs.recurs.kept

  pub none-more : has_all b.count index ≡ true → NoneLeft Is b w
  none-more full k n within occurs =
      let fewer = count-within (λ m. Recurs Is b m × (m <ℤ w.first)) (λ m. Recurs Is b m × (m <ℤ n)) index k
      (λ m h. (h.0, omega (arith, signed, h.1, within.0))) counted occurs.counted in
      all-few b.count index k full fewer occurs.few

  module _ (day : ℤ) (first : IsFirstOf Is w.first w.last day) where
    first-counted : HasBefore Is b day index
    first-counted =
        count-like (λ m. Recurs Is b m × (m <ℤ w.first)) (λ m. Recurs Is b m × (m <ℤ day)) index
        (λ m h. (h.0, omega (arith, signed, h.1, first.within.0)))
        (λ m h. (h.0, by_lt_z {P = m <ℤ w.first} m w.first (λ lt. lt) (λ ge. absurd (first.least m ge h.1 h.0.kept)))) counted

    first-recurs : Recurs Is b day
    first-recurs = recurs-of day first.within first.kept

    -- one more lies before the next day
    pub next-counted : HasBefore Is b (day +ℤ pos 1) (index + 1)
    next-counted =
        count-push (λ m. Recurs Is b m × (m <ℤ day)) (λ m. Recurs Is b m × (m <ℤ (day +ℤ pos 1))) index day
        (λ m h. h.1) (first-recurs, omega (arith, signed)) (λ m h. (h.0, omega (arith, signed, h.1)))
        (λ m h. split m h.0 h.1) first-counted where
          split : (m : ℤ) → Recurs Is b m → m <ℤ (day +ℤ pos 1) → (Recurs Is b m × (m <ℤ day)) ⊎ (day ≡ m)
          split m recurs low =
              by_lt_z {P = (Recurs Is b m × (m <ℤ day)) ⊎ (day ≡ m)} m day (λ lt. inl (recurs, lt)) (λ ge. inr (omega (arith, signed, low, ge)))

    module _ (few : has_all b.count index ≡ false) where
      first-occurs : Occurs Is b index day
      first-occurs = record { recurs = first-recurs; counted = first-counted; few = few-of b.count index few }

      -- it is the first that is left
      pub first-left : IsFirstLeft Is b w (record { index = index; day = day })
      first-left = record {
        occurs = first-occurs;
        within = first.within;
        least = λ k n low high occurs. first.least n low high occurs.recurs.kept;
      }

      -- an occurrence on its day is itself
      itself : (y : Occurrence) → Occurs Is b y.index y.day → y.day ≡ day → record { index = index; day = day } ≡ y
      itself y occurs same =
          let before : HasBefore Is b day y.index = subst (λ (n : ℤ). HasBefore Is b n y.index) same occurs.counted in
          let equal : index ≡ y.index = count-unique (λ m. Recurs Is b m × (m <ℤ day)) index y.index first-counted before in
          ap₂ (λ (i : ℕ) (n : ℤ). record { index = i; day = n }) equal (sym same)

      -- a later occurrence has a greater index
      greater : (y : Occurrence) → Occurs Is b y.index y.day → day <ℤ y.day → index < y.index
      greater y occurs late =
          let fewer = count-within (λ m. Recurs Is b m × (m <ℤ (day +ℤ pos 1))) (λ m. Recurs Is b m × (m <ℤ y.day)) (index + 1) y.index
          (λ m h. (h.0, omega (arith, signed, h.1, late))) next-counted occurs.counted in
          omega (arith, fewer)

      -- with those behind it, it makes up all that are left
      whole-of : (xs : List Occurrence) → AllPairs (λ x y. (x.index < y.index) × (x.day <ℤ y.day)) xs →
          ((y : Occurrence) → Contains xs y → Occurs Is b y.index y.day × IsBetween (day +ℤ pos 1) w.last y.day) →
          ((y : Occurrence) → Occurs Is b y.index y.day → IsBetween (day +ℤ pos 1) w.last y.day → Contains xs y) →
          AreOccurrences Is b w.first w.last (record { index = index; day = day } ∷ xs)
      whole-of xs rising out into = record {
        rising = pairs-cons (λ x y. (x.index < y.index) × (x.day <ℤ y.day)) (record { index = index; day = day }) xs rising
            (λ y has. let o = out y has in let late : day <ℤ y.day = omega (arith, signed, o.1.0) in (greater y o.0 late, late));
        exact = λ y. (λ has. from-list y (cons-cases (record { index = index; day = day }) xs y has), λ o. to-list y o.0 o.1);
      } where
        from-list : (y : Occurrence) → (record { index = index; day = day } ≡ y) ⊎ Contains xs y → Occurs Is b y.index y.day × IsBetween w.first w.last y.day
        from-list y (inl same) =
            subst (λ (z : Occurrence). Occurs Is b z.index z.day × IsBetween w.first w.last z.day) same (first-occurs, first.within)
        from-list y (inr has) = let o = out y has in (o.0, (omega (arith, signed, o.1.0, first.within.0), o.1.1))

        to-list : (y : Occurrence) → Occurs Is b y.index y.day → IsBetween w.first w.last y.day → Contains (record { index = index; day = day } ∷ xs) y
        to-list y occurs within =
            by_lt_z {P = Contains (record { index = index; day = day } ∷ xs) y} y.day day
            (λ early. absurd (first.least y.day within.0 early occurs.recurs.kept))
            (λ ge. by_lt_z {P = Contains (record { index = index; day = day } ∷ xs) y} day y.day
            (λ late. cons-later (record { index = index; day = day }) xs y (into y occurs (omega (arith, signed, late), within.1)))
            (λ le. subst (Contains (record { index = index; day = day } ∷ xs)) (itself y occurs (omega (arith, signed, ge, le)))
            (cons-first (record { index = index; day = day }) xs)))

      pub whole-left : (left : Option Window) → IsAfter w day left → (xs : List Occurrence) → AreLeft Is b left xs →
          AreOccurrences Is b w.first w.last (record { index = index; day = day } ∷ xs)
      whole-left None ends xs none =
          subst (λ ys. AreOccurrences Is b w.first w.last (record { index = index; day = day } ∷ ys)) (sym none)
          (whole-of [] (λ i j d lt within. absurd (omega (arith, within))) (λ y has. absurd (none-contained y has))
          (λ y occurs within. absurd (omega (arith, signed, within.0, within.1, ends))))
      whole-left (Some r) is xs are =
          whole-of xs are.rising
          (λ y has. let o = (are.exact y).0 has in (o.0, (omega (arith, signed, o.1.0, is.0), omega (arith, signed, o.1.1, is.1))))
          (λ y occurs within. (are.exact y).1 (occurs, (omega (arith, signed, within.0, is.0), omega (arith, signed, within.1, is.1))))

-- the state behind the next occurrence
pub next-state : (Has : ℕ → ℤ → Type 0) (b : Bounds) (w : Window) (index : ℕ) (old : Looks) → IsListing Has b index old w → (day : ℤ) →
    IsFirstOf (IsOfSome Has) w.first w.last day → (looks : Looks) → AreLooks Has w.last looks → ArePassed Has looks.period w.first w.last →
    (left : Option Window) → IsAfter w day left → ForSome left (λ r. IsListing Has b (index + 1) looks r)
next-state Has b w index old state day first looks looked passed None ends r e = none-some e where
  none-some : {A : Type 0} → None ≡ Some r → A
  none-some e = cc
next-state Has b w index old state day first looks looked passed (Some r) is v e = subst (IsListing Has b (index + 1) looks) (same e) (record {
  started = omega (arith, signed, state.started, is.0, first.within.0);
  ended = λ last f. omega (arith, signed, state.ended last f, is.1);
  counted = subst (λ (n : ℤ). HasBefore (IsOfSome Has) b n (index + 1)) (sym is.0)
      (next-counted (IsOfSome Has) b w index state.started state.ended state.counted day first);
  few = omega (arith, signed, state.few, is.0, first.within.0);
  looked = subst (λ (n : ℤ). AreLooks Has n looks) (sym is.1) looked;
  passed = λ i lt n within has. passed i lt n (omega (arith, signed, within.0, is.0, first.within.0), omega (arith, signed, within.1, is.1)) has;
}) where
  same : Some r ≡ Some v → r ≡ v
  same e = cc

-- fewer days are left behind an occurrence
pub fewer-left : (w : Window) (day : ℤ) → IsBetween w.first w.last day → (left : Option Window) → IsAfter w day left → days_left left < days_left (Some w)
fewer-left w day within None ends = omega (arith, signed, within.0, within.1)
fewer-left w day within (Some r) is = omega (arith, signed, within.0, within.1, is.0, is.1)

pub progress-of : {S A : Type 0} (rest : S → Option Window) (s t : S) (r : Option A) → IfSome r (λ _. days_left (rest t) < days_left (rest s)) →
    MakesProgress (λ _. ⊤) (λ i. at_most (days_left (rest i))) s r t
progress-of rest s t None less = record {
  on = λ _. tt;
  keeps = tt;
  rests = λ _. tt;
}
progress-of rest s t (Some x) less = record {
  on = λ _. (tt, tt, less);
  keeps = tt;
  rests = λ _. tt;
}

-- the days of a window within bounds
pub within-of : (b : Bounds) (w : Window) (first last : ℤ) → first ≡ later w.first b.start → last ≤ℤ w.last → ForSome b.until (λ u. last ≤ℤ u) →
    (last ≡ w.last) ⊎ (b.until ≡ Some last) → (found : Option Window) → IsSome found ↔ IsWindow first last →
    IfSome found (λ r. (r.first ≡ first) × (r.last ≡ last)) → IsWithin b w found
within-of b w first last is low ends either found exact days = by_found found exact days where
  lower : (w.first ≤ℤ first) × (b.start ≤ℤ first)
  lower = later-both w.first b.start first (omega (arith, signed, is))

  higher : (n : ℤ) → IsBoundedIn b w n → first ≤ℤ n
  higher n h = let le = both-later w.first b.start n h.within.0 h.started in omega (arith, signed, is, le)

  below : (n : ℤ) → IsBoundedIn b w n → (last ≡ w.last) ⊎ (b.until ≡ Some last) → n ≤ℤ last
  below n h (inl same) = omega (arith, signed, same, h.within.1)
  below n h (inr until) = h.ended last until

  by_found : (o : Option Window) → IsSome o ↔ IsWindow first last → IfSome o (λ r. (r.first ≡ first) × (r.last ≡ last)) → IsWithin b w o
  by_found None exact days = λ n h. unfound (higher n h) (below n h either) h exact where
    false-true : {A : Type 0} → false ≡ true → A
    false-true e = cc

    unfound : {n : ℤ} → first ≤ℤ n → n ≤ℤ last → IsBoundedIn b w n → IsSome {T = Window} None ↔ IsWindow first last → ⊥
    unfound {n} high end h exact =
        false-true (exact.1 (record {
          from = (omega (arith, signed, w.days.from, lower.0), omega (arith, signed, w.days.to, high, h.within.1));
          to = (omega (arith, signed, w.days.from, h.within.0, end), omega (arith, signed, w.days.to, low));
          order = omega (arith, signed, high, end);
        }))
  by_found (Some r) exact days = record {
    exact = λ n. (
      λ within. record {
        within = (omega (arith, signed, within.0, days.0, lower.0), omega (arith, signed, within.1, days.1, low));
        started = omega (arith, signed, within.0, days.0, lower.1);
        ended = λ u e. omega (arith, signed, within.1, days.1, ends u e);
      },
      λ h. (omega (arith, signed, higher n h, days.0), omega (arith, signed, below n h either, days.1)),
    );
    reached = omega (arith, signed, days.0, lower.0);
  }

-- ---- what a call says

none-some : {A B : Type 0} {x : A} → None ≡ Some x → B
none-some e = cc

some-same : {A : Type 0} {x y : A} → Some x ≡ Some y → x ≡ y
some-same e = cc

module _ (Is : ℤ → Type 0) (b : Bounds) where
  pub goes-none : (o : Option Window) (answer : Option Occurrence) → o ≡ None → answer ≡ None → GoesOn Is b o answer o
  goes-none None None e f = record { next = (refl, refl); whole = λ xs left. left }
  goes-none None (Some x) e f = none-some (sym f)
  goes-none (Some w) answer e f = none-some (sym e)

  pub goes-ended : (w : Window) → NoneLeft Is b w → (o : Option Window) → o ≡ Some w → GoesOn Is b o None None
  goes-ended w none None e = none-some e
  goes-ended w none (Some v) e =
      subst (λ (u : Window). GoesOn Is b (Some u) None None) (sym (some-same e))
      (record { next = (none, refl); whole = λ xs left. (items-none Is b w.first w.last none xs).0 left })

  pub goes-some : (w : Window) (x : Occurrence) → IsFirstLeft Is b w x → (left : Option Window) → IsAfter w x.day left →
      ((xs : List Occurrence) → AreLeft Is b left xs → AreOccurrences Is b w.first w.last (x ∷ xs)) → (o : Option Window) → o ≡ Some w →
      GoesOn Is b o (Some x) left
  goes-some w x first left after whole None e = none-some e
  goes-some w x first left after whole (Some v) e =
      subst (λ (u : Window). GoesOn Is b (Some u) (Some x) left) (sym (some-same e))
      (record { next = (first, after); whole = whole })

  -- nothing is left of a window, if as many as there may be lie before its part within the bounds
  pub items-full : (w rest : Window) → IsRestOf b w rest → (start day : ℤ) → start ≡ later (negsuc 365242498) b.start → day ≡ rest.first →
      IsFullBefore Is b.count start day → (xs : List Occurrence) → AreLeft Is b None xs ↔ AreOccurrences Is b w.first w.last xs
  items-full w rest is start day starts here full xs =
      items-none Is b w.first w.last
      (λ k n within occurs.
      none-full Is b full.next rest.first rest.last full.index (omega (arith, signed, full.order, here)) rest.days.from
      (((is.exact rest.first).0 (omega (arith, signed), rest.days.order)).ended)
      (subst (λ (m : ℤ). HasPassed Is m full.next full.index) starts full.counted) full.full k n
      ((is.exact n).1 (bounded Is b w k n occurs within)) occurs) xs

  rest-bounds : (w rest : Window) → IsRestOf b w rest → (b.start ≤ℤ rest.first) × ForSome b.until (λ last. rest.last ≤ℤ last)
  rest-bounds w rest is =
      (((is.exact rest.first).0 (omega (arith, signed), rest.days.order)).started, ((is.exact rest.last).0 (rest.days.order, omega (arith, signed))).ended)

-- nothing is asked of none
pub none-for : {A : Type 0} (P : A → Type 0) (o : Option A) → o ≡ None → ForSome o P
none-for P o e x f = none-some (sym e ∙ f)

pub for-some : {A : Type 0} (P : A → Type 0) (x : A) → P x → ForSome (Some x) P
for-some P x p y e = subst P (some-same e) p

-- the state of a listing that has passed the days before it
pub new-state : (Has : ℕ → ℤ → Type 0) (b : Bounds) (w rest : Window) → IsRestOf b w rest → (start first last : ℤ) →
    start ≡ later (negsuc 365242498) b.start → first ≡ rest.first → last ≡ rest.last →
    (p : Passed) → IsPassing Has last p × (p.first ≡ start) × (p.next ≡ first) → IsListing Has b p.index p.looks rest
new-state Has b w rest is start first last starts begins ends p (passing, from, to) =
    let bounds = rest-bounds (IsOfSome Has) b w rest is in
    let next : p.next ≡ rest.first = to ∙ begins in
    let low = later-both (negsuc 365242498) b.start p.first (omega (arith, signed, from, starts)) in
    record {
      started = bounds.0;
      ended = bounds.1;
      counted = before-of_passed (IsOfSome Has) b rest.first p.index rest.days.from
          (λ u e. omega (arith, signed, bounds.1 u e, rest.days.order))
          (subst₂ (λ (a z : ℤ). HasPassed (IsOfSome Has) a z p.index) (from ∙ starts) next passing.counted);
      few = omega (arith, signed, passing.few, next, low.0);
      looked = subst (λ (n : ℤ). AreLooks Has n p.looks) ends passing.looked;
      passed = subst₂ (λ (a z : ℤ). ArePassed Has p.looks.period a z) next ends passing.passed;
    }

-- and of one that is told how many lie before it
pub resumed-state : (Has : ℕ → ℤ → Type 0) (b : Bounds) (w rest : Window) → IsRestOf b w rest → (index : ℕ) → HasBefore (IsOfSome Has) b w.first index →
    (looks : Looks) (first last : ℤ) → first ≡ rest.first → last ≡ rest.last → AreLooks Has last looks → ArePassed Has looks.period first last →
    IsListing Has b index looks rest
resumed-state Has b w rest is index count looks first last begins ends looked passed =
    let bounds = rest-bounds (IsOfSome Has) b w rest is in
    let before = before-rest (IsOfSome Has) b w rest index is count in
    let span = count-span (λ m. Recurs (IsOfSome Has) b m × (m <ℤ rest.first)) index (negsuc 365242498) rest.first (omega (arith, signed, rest.days.from))
    (λ m h. (h.0.valid.0, h.1)) before in
    record {
      started = bounds.0;
      ended = bounds.1;
      counted = before;
      few = omega (arith, signed, span);
      looked = subst (λ (n : ℤ). AreLooks Has n looks) ends looked;
      passed = subst₂ (λ (a z : ℤ). ArePassed Has looks.period a z) begins ends passed;
    }

-- for callers: where a call gives nothing, no occurrence was left
pub goes-end : (Is : ℤ → Type 0) (b : Bounds) (rest left : Option Window) → GoesOn Is b rest None left → AreLeft Is b rest []
goes-end Is b None left goes = refl
goes-end Is b (Some w) left goes = goes.whole [] (subst (λ (o : Option Window). AreLeft Is b o []) (sym goes.next.1) refl)
