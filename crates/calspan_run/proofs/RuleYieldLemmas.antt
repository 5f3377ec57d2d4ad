-- The occurrences that a listing has given so far are those up to a day.
use Rattle.std.proofs.Common.{◌≡◌, ◌∙◌, ℕ, ◌+◌, ◌<◌, ◌⊎◌, inl, inr, List, [], ◌∷◌, ◌++◌, Option, Some, None, refl, sym, ap₂, subst, subst₂, arith, ℤ, pos, ◌+ℤ◌, ◌-ℤ◌, ◌≤ℤ◌, ◌<ℤ◌}
use Rattle.std.specs.Prelude.{AllPairs, Contains, ◌↔◌}
use Rattle.std.specs.Iterator.{Yields}
use Rattle.std.specs.Option.{ForSome}
use Rattle.std.proofs.lemmas.Int.{by_lt_z}
use Rattle.std.proofs.lemmas.List.{append-nil, append_assoc}
use Rattle.std.proofs.lemmas.List.Elements.{Contains-append_left, Contains-push, Contains-push_cases}
use Rattle.cal_days.specs.Day.{IsBetween, IsValidDay}
use Rattle.cal_days.proofs.Signed.{signed}
use Rattle.cal_types.specs.WindowDays.{IsAfter}
use Rattle.cal_types.specs.declared.window.Window.{Window}
use Rattle.recurrence_sets.specs.Bounds.{IsRestOf}
use Rattle.recurrence_sets.specs.Days.{HasCount}
use Rattle.recurrence_sets.specs.Listing.{GoesOn, IsFirstLeft}
use Rattle.recurrence_sets.specs.Occurrences.{AreLeft, AreOccurrences, Occurs, Recurs}
use Rattle.recurrence_sets.specs.declared.bounds.Bounds.{Bounds}
use Rattle.recurrence_sets.specs.declared.occurrence.Occurrence.{Occurrence}
use Rattle.recurrence_sets.proofs.DayLemmas.{count-push, count-unique, count-within, pairs-push}
use Rattle.recurrence_sets.proofs.ListingLemmas.{goes-end, items-none}

none-some : {A B : Type 0} {x : A} → None ≡ Some x → B
none-some e = cc

module _ (Is : ℤ → Type 0) (b : Bounds) where
  -- a later occurrence has a greater index
  index-rises : (x y : Occurrence) → Occurs Is b x.index x.day → Occurs Is b y.index y.day → x.day <ℤ y.day → x.index < y.index
  index-rises x y p q late =
      let next : HasCount (λ m. Recurs Is b m × (m <ℤ (x.day +ℤ pos 1))) (x.index + 1) =
      count-push (λ m. Recurs Is b m × (m <ℤ x.day)) (λ m. Recurs Is b m × (m <ℤ (x.day +ℤ pos 1))) x.index x.day
      (λ m h. h.1) (p.recurs, omega (arith, signed)) (λ m h. (h.0, omega (arith, signed, h.1))) split p.counted in
      let fewer = count-within (λ m. Recurs Is b m × (m <ℤ (x.day +ℤ pos 1))) (λ m. Recurs Is b m × (m <ℤ y.day)) (x.index + 1) y.index
      (λ m h. (h.0, omega (arith, signed, h.1, late))) next q.counted in
      omega (arith, fewer)
    where
      split : (m : ℤ) → Recurs Is b m × (m <ℤ (x.day +ℤ pos 1)) → (Recurs Is b m × (m <ℤ x.day)) ⊎ (x.day ≡ m)
      split m h =
          by_lt_z {P = (Recurs Is b m × (m <ℤ x.day)) ⊎ (x.day ≡ m)} m x.day (λ early. inl (h.0, early))
          (λ ge. inr (omega (arith, signed, ge, h.1)))

  -- two occurrences of a day are one
  same-day : (x y : Occurrence) → Occurs Is b x.index x.day → Occurs Is b y.index y.day → y.day ≡ x.day → x ≡ y
  same-day x y p q same =
      let before : HasCount (λ m. Recurs Is b m × (m <ℤ x.day)) y.index =
      subst (λ (n : ℤ). HasCount (λ m. Recurs Is b m × (m <ℤ n)) y.index) same q.counted in
      ap₂ (λ (i : ℕ) (n : ℤ). record { index = i; day = n }) (count-unique (λ m. Recurs Is b m × (m <ℤ x.day)) x.index y.index p.counted before) (sym same)

  -- what was given are the occurrences from a first day to one before those that are left
  pub record Given (first last : ℤ) (rest : Option Window) (xs : List Occurrence) : Type 0 where
    pub day : ℤ
    pub within : day ≤ℤ last
    pub begun : first ≤ℤ (day +ℤ pos 1)
    pub are : AreOccurrences Is b first day xs
    pub left : ForSome rest (λ w. (w.first ≡ day +ℤ pos 1) × (w.last ≤ℤ last))

  -- before the first call
  pub given-none : (w : Window) (rest : Option Window) → ForSome rest (IsRestOf b w) → (AreLeft Is b rest [] → AreOccurrences Is b w.first w.last []) → Given w.first w.last rest []
  given-none w None is items = record {
    day = w.last;
    within = omega (arith, signed);
    begun = omega (arith, signed, w.days.order);
    are = items refl;
    left = λ r e. none-some e;
  }
  given-none w (Some r) is items =
      let here = is r refl in
      record {
        day = r.first -ℤ pos 1;
        within = omega (arith, signed, ((here.exact r.last).0 (omega (arith, signed, r.days.order), omega (arith, signed))).within, r.days.order);
        begun = omega (arith, signed, here.reached);
        are = (items-none Is b w.first (r.first -ℤ pos 1) (λ k n within occurs. none here k n within occurs) []).0 refl;
        left = λ v e. left here v e;
      }
    where
      none : IsRestOf b w r → (k : ℕ) (n : ℤ) → IsBetween w.first (r.first -ℤ pos 1) n → Occurs Is b k n → ⊥
      none here k n within occurs =
          let last : w.first ≤ℤ r.last × (r.last ≤ℤ w.last) = ((here.exact r.last).0 (omega (arith, signed, r.days.order), omega (arith, signed))).within in
          let at = (here.exact n).1 (record {
            within = (within.0, omega (arith, signed, within.1, r.days.order, last.1));
            started = occurs.recurs.started;
            ended = occurs.recurs.ended;
          }) in
          omega (arith, signed, within.1, at.0)

      left : IsRestOf b w r → (v : Window) → Some r ≡ Some v → (v.first ≡ r.first -ℤ pos 1 +ℤ pos 1) × (v.last ≤ℤ w.last)
      left here v e =
          let last = ((here.exact r.last).0 (omega (arith, signed, r.days.order), omega (arith, signed))).within in
          let same : r ≡ v = cc in
          subst (λ (u : Window). (u.first ≡ r.first -ℤ pos 1 +ℤ pos 1) × (u.last ≤ℤ w.last)) same (omega (arith, signed), last.1)

  -- one more is given: the first of those that are left
  module _ (first last : ℤ) (w : Window) (xs : List Occurrence) (h : Given first last (Some w) xs) (x : Occurrence) (is : IsFirstLeft Is b w x) where
    joined : (w.first ≡ h.day +ℤ pos 1) × (w.last ≤ℤ last)
    joined = h.left w refl

    before : (y : Occurrence) → Contains xs y → Occurs Is b y.index y.day × (first ≤ℤ y.day) × (y.day <ℤ w.first)
    before y has = let o = (h.are.exact y).0 has in (o.0, o.1.0, omega (arith, signed, o.1.1, joined.0))

    rises : (y : Occurrence) → Contains xs y → (y.index < x.index) × (y.day <ℤ x.day)
    rises y has =
        let o = before y has in
        let early : y.day <ℤ x.day = omega (arith, signed, o.2, is.within.0) in
        (index-rises y x o.0 is.occurs early, early)

    out : (y : Occurrence) → Contains xs y ⊎ (x ≡ y) → Occurs Is b y.index y.day × IsBetween first x.day y.day
    out y (inl has) = let o = before y has in (o.0, (o.1, omega (arith, signed, o.2, is.within.0)))
    out y (inr same) =
        subst (λ (z : Occurrence). Occurs Is b z.index z.day × IsBetween first x.day z.day) same
        (is.occurs, (omega (arith, signed, h.begun, joined.0, is.within.0), omega (arith, signed)))

    into : (y : Occurrence) → Occurs Is b y.index y.day × IsBetween first x.day y.day → Contains (xs ++ (x ∷ [])) y
    into y o =
        by_lt_z {P = Contains (xs ++ (x ∷ [])) y} y.day w.first
        (λ early. Contains-append_left xs (x ∷ []) y ((h.are.exact y).1 (o.0, (o.1.0, omega (arith, signed, early, joined.0)))))
        (λ from. by_lt_z {P = Contains (xs ++ (x ∷ [])) y} y.day x.day
        (λ early. absurd (is.least y.index y.day from early o.0))
        (λ ge. subst (Contains (xs ++ (x ∷ []))) (same-day x y is.occurs o.0 (omega (arith, signed, ge, o.1.1))) (Contains-push xs x)))

    pub given-one : (rest : Option Window) → IsAfter w x.day rest → Given first last rest (xs ++ (x ∷ []))
    given-one rest after = record {
      day = x.day;
      within = omega (arith, signed, is.within.1, joined.1);
      begun = omega (arith, signed, h.begun, joined.0, is.within.0);
      are = record {
        rising = pairs-push (λ y z. (y.index < z.index) × (y.day <ℤ z.day)) xs x h.are.rising rises;
        exact = λ y. (λ has. out y (Contains-push_cases xs x y has), into y);
      };
      left = left rest after;
    } where
      left : (o : Option Window) → IsAfter w x.day o → ForSome o (λ v. (v.first ≡ x.day +ℤ pos 1) × (v.last ≤ℤ last))
      left None ends v e = none-some e
      left (Some r) goes v e =
          let same : r ≡ v = cc in
          subst (λ (u : Window). (u.first ≡ x.day +ℤ pos 1) × (u.last ≤ℤ last)) same (goes.0, omega (arith, signed, goes.1, joined.1))

  pub given-next : (first last : ℤ) (rest : Option Window) (xs : List Occurrence) → Given first last rest xs → (x : Occurrence) (left : Option Window) → GoesOn Is b rest (Some x) left → Given first last left (xs ++ (x ∷ []))
  given-next first last None xs h x left goes = none-some (sym goes.next.0)
  given-next first last (Some w) xs h x left goes = given-one first last w xs h x goes.next.0 left goes.next.1

  -- an occurrence that is given is on a valid day
  pub next-valid : (rest : Option Window) (x : Occurrence) (left : Option Window) → GoesOn Is b rest (Some x) left → IsValidDay x.day
  next-valid None x left goes = none-some (sym goes.next.0)
  next-valid (Some w) x left goes = goes.next.0.occurs.recurs.valid

  -- calls that each go on, from one state to another
  module _ {S : Type 0} (rest : S → Option Window) (steps : S → Option Occurrence → S → Type 0) (Same : S → Type 0) (go : (s t : S) (r : Option Occurrence) → Same s → steps s r t → GoesOn Is b (rest s) r (rest t) × Same t) where
    pub given-all : (first last : ℤ) (s t : S) (xs ys : List Occurrence) → Same s → Given first last (rest s) xs → Yields steps s ys t → Given first last (rest t) (xs ++ ys)
    given-all first last s t xs [] is h same = subst₂ (λ (u : S) (zs : List Occurrence). Given first last (rest u) zs) same (sym (append-nil xs)) h
    given-all first last s t xs (y ∷ ys) is h (j, step, more) =
        let goes = go s j (Some y) is step in
        subst (λ (zs : List Occurrence). Given first last (rest t) zs) (append_assoc xs (y ∷ []) ys)
        (given-all first last j t (xs ++ (y ∷ [])) ys goes.1 (given-next first last (rest s) xs h y (rest j) goes.0) more)

    -- with those that are left, they make up all
    pub whole-all : (s t u : S) (xs : List Occurrence) → Same s → Yields steps s xs t → steps t None u → AreLeft Is b (rest s) xs
    whole-all s t u [] is same step = goes-end Is b (rest s) (rest u) (go s u None is (subst (λ (v : S). steps v None u) (sym same) step)).0
    whole-all s t u (x ∷ xs) is (j, first, more) step =
        let goes = go s j (Some x) is first in
        goes.0.whole xs (whole-all j t u xs goes.1 more step)

-- a listing goes on with the periods and the bounds that it was made for
pub listing-goes : {P S : Type 0} (periods : S → P) (bounds : S → Bounds) (rest : S → Option Window) (Has : P → ℤ → Type 0) (p : P) (b : Bounds) (i j : S) (o : Option Occurrence)
    → (periods i ≡ p) × (bounds i ≡ b) → GoesOn (Has (periods i)) (bounds i) (rest i) o (rest j) × (periods j ≡ periods i) × (bounds j ≡ bounds i)
    → GoesOn (Has p) b (rest i) o (rest j) × ((periods j ≡ p) × (bounds j ≡ b))
listing-goes periods bounds rest Has p b i j o (e, f) (goes, same, alike) = (
  subst (λ x. GoesOn (Has p) x (rest i) o (rest j)) f (subst (λ x. GoesOn (Has x) (bounds i) (rest i) o (rest j)) e goes),
  (same ∙ e, alike ∙ f),
)
