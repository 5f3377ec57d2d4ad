-- The list of occurrences, from its first one on.
use Rattle.std.proofs.Common.{◌≡◌, ℕ, zero, suc, ◌+◌, ◌*◌, ◌<◌, ◌≤◌, Bool, true, false, cond, ◌&&◌, int_le, List, [], ◌∷◌, ◌++◌, length, Option, Some, None, MatchOption, Ok, ◌⊎◌, inl, inr, refl, sym, ap, ap₂, subst, subst₂, ◌∙◌, arith, ℤ, pos, ◌+ℤ◌, ◌<ℤ◌, ◌≤ℤ◌, mul-le-mul_left, mul-lt-mul_of_pos_right}
use Rattle.std.specs.Prelude.{⊤, AllPairs, Contains, get_or}
use Rattle.std.proofs.lemmas.List.{append-nil, get_or_append_left, get_or_push, length_push}
use Rattle.std.proofs.lemmas.List.Elements.{Contains-append_left, Contains-get_or, Contains-push, Contains-push_cases}
use Rattle.std.specs.Iterator.{MakesProgress, item_count}
use Rattle.std.specs.Option.{option_and_then, option_to_list}
use Rattle.std.proofs.lemmas.Int.{ints}
use Rattle.cal_types.specs.declared.options.Overflow.TheVariants.{Constrain}
use Rattle.cal_days.specs.Day.{IsBetween, IsFieldYear, is_between}
use Rattle.cal_types.specs.CalendarList.{Date, IsLawful, IsValidDate}
use Rattle.cal_types.specs.CalendarSystem.{CalendarSystem}
use Rattle.cal_days.proofs.Signed.{signed, by_lt}
use Rattle.cal_days.proofs.RangeLemmas.{is_between-true, true-is_between}
use Rattle.cal_recur.specs.declared.recurrence.Occurrence.{Occurrence}
use Rattle.cal_recur.specs.declared.rule.Rule.{Rule}
use Rattle.cal_types.specs.declared.window.Window.{Window}
use Rattle.cal_recur.specs.Rule.{overflow_of}
use Rattle.cal_recur.specs.Occurrence.{occurrence}
use Rattle.cal_recur.specs.FirstIndex.{AreBefore, constrained}
use Rattle.cal_recur.specs.Listing.{AreOccurrences, IsFirstListed, NoneListed, Occurs, gathered, index_count, listed, occurrences, occurrences_left}
use Rattle.cal_recur.proofs.OccurrenceLemmas.{occurrence-earlier, occurrence-few, occurrence-kept, occurrence-rises, occurrence-sum, some_same, sum-of_occurrence}

-- ---- what a function gives of the numbers below another

gathered-next : {A : Type 0} (f : ℕ → Option A) (n : ℕ) (o : Option A) → f n ≡ o → gathered f (suc n) ≡ gathered f n ++ option_to_list o
unfolding gathered
gathered-next f n o e = ap (λ x. gathered f n ++ option_to_list x) e

gathered-zero : {A : Type 0} (f : ℕ → Option A) → gathered f zero ≡ []
unfolding gathered
gathered-zero f = refl

gathered-none : {A : Type 0} (f : ℕ → Option A) (n : ℕ) → ((k : ℕ) → k < n → f k ≡ None) → gathered f n ≡ []
gathered-none f zero none = gathered-zero f
gathered-none f (suc n) none =
    gathered-next f n None (none n (omega arith)) ∙ ap (λ xs. xs ++ []) (gathered-none f n (λ k lt. none k (omega arith)))

-- where g gives what f gives past j, and nothing up to it, it lacks f's first item alone
gathered-first : {A : Type 0} (f g : ℕ → Option A) (j : ℕ) (x : A) → f j ≡ Some x → ((k : ℕ) → k < j → f k ≡ None) → ((k : ℕ) → k ≤ j → g k ≡ None) → ((k : ℕ) → j < k → g k ≡ f k) → (n : ℕ) → j < n → gathered f n ≡ x ∷ gathered g n
gathered-first f g j x here before none same zero lt = absurd (omega arith)
gathered-first {A} f g j x here before none same (suc n) lt =
    by_lt {P = gathered f (suc n) ≡ x ∷ gathered g (suc n)} j n
    (λ later.
    let so_far = gathered-first f g j x here before none same n later in
    let f_next = gathered-next f n (f n) refl in
    let g_next = gathered-next g n (f n) (same n later) in
    f_next ∙ ap (λ xs. xs ++ option_to_list (f n)) so_far ∙ sym (ap (λ xs. x ∷ xs) g_next))
    (λ first.
    let at : n ≡ j = omega arith in
    let f_here : f n ≡ Some x = ap f at ∙ here in
    let f_next = gathered-next f n (Some x) f_here in
    let f_none = gathered-none f n (λ k l. before k (omega arith)) in
    let g_none = gathered-none g (suc n) (λ k l. none k (omega arith)) in
    f_next ∙ ap (λ xs. xs ++ (x ∷ [])) f_none ∙ sym (ap (λ xs. x ∷ xs) g_none))

-- what is gathered is what f gives
gathered-some : {A : Type 0} (f : ℕ → Option A) (n : ℕ) (x : A) → Contains (gathered f n) x → (k : ℕ) × (k < n) × (f k ≡ Some x)
gathered-some f zero x has = let none = ap length (gathered-zero f) in absurd (omega (arith, has.1, none))
gathered-some {A} f (suc n) x has = by_value (λ h. gathered-some f n x h) (f n) refl where
  Found : ℕ → Type 0
  Found m = (k : ℕ) × (k < m) × (f k ≡ Some x)

  earlier : Found n → Found (suc n)
  earlier found = (found.0, omega (arith, found.1), found.2)

  either : (Contains (gathered f n) x → Found n) → (y : A) → f n ≡ Some y → Contains (gathered f n) x ⊎ (y ≡ x) → Found (suc n)
  either before y e (inl h) = earlier (before h)
  either before y e (inr same) = (n, omega arith, e ∙ ap Some same)

  by_value : (Contains (gathered f n) x → Found n) → (o : Option A) → f n ≡ o → Found (suc n)
  by_value before None e = earlier (before (subst (λ xs. Contains xs x) (gathered-next f n None e ∙ append-nil (gathered f n)) has))
  by_value before (Some y) e = either before y e (Contains-push_cases (gathered f n) y x (subst (λ xs. Contains xs x) (gathered-next f n (Some y) e) has))

-- and all that it gives
gathered-has : {A : Type 0} (f : ℕ → Option A) (n k : ℕ) (x : A) → k < n → f k ≡ Some x → Contains (gathered f n) x
gathered-has f zero k x lt e = absurd (omega arith)
gathered-has f (suc n) k x lt e =
    by_lt {P = Contains (gathered f (suc n)) x} k n
    (λ low. subst (λ xs. Contains xs x) (sym (gathered-next f n (f n) refl)) (Contains-append_left (gathered f n) (option_to_list (f n)) x (gathered-has f n k x low e)))
    (λ high.
    let at : n ≡ k = omega arith in
    let here : f n ≡ Some x = ap f at ∙ e in
    subst (λ xs. Contains xs x) (sym (gathered-next f n (Some x) here)) (Contains-push (gathered f n) x))

-- each of some items stands in a relation to each later one, where one is put behind those before it
pairs-push : {A : Type 0} (R : A → A → Type 0) (xs : List A) (y : A) → AllPairs R xs → ((x : A) → Contains xs x → R x y) → AllPairs R (xs ++ (y ∷ []))
pairs-push R xs y pairs last i j d lt within =
    let long = length_push xs y in
    let first : i < length xs = omega arith in
    let at_i = get_or_append_left xs (y ∷ []) d i first in
    by_lt {P = R (get_or (xs ++ (y ∷ [])) i d) (get_or (xs ++ (y ∷ [])) j d)} j (length xs)
    (λ low. subst₂ R (sym at_i) (sym (get_or_append_left xs (y ∷ []) d j low)) (pairs i j d lt low))
    (λ high.
    let at : j ≡ length xs = omega arith in
    subst₂ R (sym at_i) (sym (get_or_push xs y d j (sym at))) (last (get_or xs i d) (Contains-get_or xs i d first)))

gathered-pairs : {A : Type 0} (R : A → A → Type 0) (f : ℕ → Option A) → ((k l : ℕ) (x y : A) → k < l → f k ≡ Some x → f l ≡ Some y → R x y) → (n : ℕ) → AllPairs R (gathered f n)
gathered-pairs R f rises zero = subst (AllPairs R) (sym (gathered-zero f)) (λ i j d lt within. absurd (omega arith))
gathered-pairs {A} R f rises (suc n) = by_value (gathered-pairs R f rises n) (f n) refl where
  by_value : AllPairs R (gathered f n) → (o : Option A) → f n ≡ o → AllPairs R (gathered f (suc n))
  by_value before None e = subst (AllPairs R) (sym (gathered-next f n None e ∙ append-nil (gathered f n))) before
  by_value before (Some y) e =
      subst (AllPairs R) (sym (gathered-next f n (Some y) e))
      (pairs-push R (gathered f n) y before (λ x has. let found = gathered-some f n x has in rises found.0 n x y found.1 found.2 e))

-- what is left of a window, which ends on a day, after one of its days
abbrev pub IsLeft : ℤ → ℤ → Option Window → Type 0
IsLeft last day rest = MatchOption rest (day ≡ last) (λ w. (w.first ≡ day +ℤ pos 1) × (w.last ≡ last))

-- ---- occurrences in a window

abbrev item : ℕ → ℤ → Occurrence
item k n = record { index = k; day = n }

-- what is listed of a day, by whether it lies in the window
abbrev within : ℤ → ℤ → ℕ → ℤ → Option Occurrence
within first last k n = cond (is_between first last n) (Some (item k n)) None

module _ (s : CalendarSystem) (t : Date) (rule : Rule) where
  -- the occurrence of the rule itself
  abbrev kept : ℕ → Option ℤ
  kept k = occurrence s.list s.year_shift t rule.unit (overflow_of rule.missing) (k * rule.every)

  listed-of : (first last : ℤ) (k : ℕ) (o : Option ℤ) → kept k ≡ o → listed s t rule first last k ≡ option_and_then (within first last k) o
  listed-of first last k o e = ap (option_and_then (within first last k)) e

  pub listed-refused : (first last : ℤ) (k : ℕ) → kept k ≡ None → listed s t rule first last k ≡ None
  listed-refused first last k e = listed-of first last k None e

  pub listed-within : (first last : ℤ) (k : ℕ) (n : ℤ) → kept k ≡ Some n → IsBetween first last n → listed s t rule first last k ≡ Some (item k n)
  listed-within first last k n e h =
      listed-of first last k (Some n) e ∙ ap (λ b. cond {A = Option Occurrence} b (Some (item k n)) None) (true-is_between first last n h)

  -- a day that isn't in the window isn't listed
  pub listed-outside : (first last : ℤ) (k : ℕ) → ((n : ℤ) → constrained s t rule k ≡ Some n → ¬ IsBetween first last n) → listed s t rule first last k ≡ None
  listed-outside first last k out = by_kept (kept k) refl where
    by_test : (n : ℤ) → kept k ≡ Some n → (b : Bool) → is_between first last n ≡ b → cond {A = Option Occurrence} b (Some (item k n)) None ≡ None
    by_test n e true h = absurd (out n (occurrence-kept s.list s.year_shift t rule.unit (overflow_of rule.missing) (k * rule.every) n e) (is_between-true first last n h))
    by_test n e false h = refl

    by_kept : (o : Option ℤ) → kept k ≡ o → listed s t rule first last k ≡ None
    by_kept None e = listed-refused first last k e
    by_kept (Some n) e = listed-of first last k (Some n) e ∙ by_test n e (is_between first last n) refl

  -- what is listed is an occurrence in the window
  pub listed-some : (first last : ℤ) (k : ℕ) (x : Occurrence) → listed s t rule first last k ≡ Some x → (kept k ≡ Some x.day) × IsBetween first last x.day × (x.index ≡ k)
  listed-some first last k x e = by_kept (kept k) refl where
    by_test : (n : ℤ) → kept k ≡ Some n → (b : Bool) → is_between first last n ≡ b → cond {A = Option Occurrence} b (Some (item k n)) None ≡ Some x → (kept k ≡ Some x.day) × IsBetween first last x.day × (x.index ≡ k)
    by_test n f true h same =
        let equal : item k n ≡ x = some_same same in
        let day : n ≡ x.day = ap (λ (y : Occurrence). y.day) equal in
        (f ∙ ap Some day, subst (IsBetween first last) day (is_between-true first last n h), sym (ap (λ (y : Occurrence). y.index) equal))
    by_test n f false h same = cc

    by_kept : (o : Option ℤ) → kept k ≡ o → (kept k ≡ Some x.day) × IsBetween first last x.day × (x.index ≡ k)
    by_kept None f = let wrong : Some x ≡ None = sym e ∙ listed-refused first last k f in cc
    by_kept (Some n) f = by_test n f (is_between first last n) refl (sym (listed-of first last k (Some n) f) ∙ e)

  -- no list where nothing is listed
  pub occurrences-none : (first last : ℤ) → ((k : ℕ) → listed s t rule first last k ≡ None) → occurrences s t rule first last ≡ []
  occurrences-none first last none = gathered-none (listed s t rule first last) index_count (λ k _. none k)

  -- occurrences before the window's first day aren't listed
  pub before-none : (first last : ℤ) (i : ℕ) → AreBefore s t rule first i → NoneListed s t rule first last i
  before-none first last i before k lt = listed-outside first last k (λ n e h. omega (arith, signed, before k lt n e))

  -- one more
  pub none-next : (first last : ℤ) (i : ℕ) → NoneListed s t rule first last i → listed s t rule first last i ≡ None → NoneListed s t rule first last (i + 1)
  none-next first last i none here k lt =
      by_lt {P = listed s t rule first last k ≡ None} k i (λ low. none k low)
      (λ high. let at : i ≡ k = omega arith in subst (λ (j : ℕ). listed s t rule first last j ≡ None) at here)

module _ (s : CalendarSystem) (law : IsLawful s.list) (t : Date) (h : IsValidDate s.list t) (field : IsFieldYear (t.year +ℤ s.year_shift)) (rule : Rule) where
  -- an occurrence with a greater index is later
  pub later-day : (k l : ℕ) → k < l → (n m : ℤ) → constrained s t rule k ≡ Some n → constrained s t rule l ≡ Some m → n <ℤ m
  later-day k l lt n m e f =
      let step : k * rule.every < l * rule.every = mul-lt-mul_of_pos_right lt rule.some in
      occurrence-rises s.list law s.year_shift t h.date rule.unit (k * rule.every) (l * rule.every) step n m e f

  -- from an index that is refused on, all are
  pub refused-later : (k l : ℕ) → constrained s t rule k ≡ None → k ≤ l → (n : ℤ) → ¬ (constrained s t rule l ≡ Some n)
  refused-later k l refused le n e =
      by_lt {P = ⊥} k l
      (λ later.
      let step : k * rule.every < l * rule.every = mul-lt-mul_of_pos_right later rule.some in
      let found = occurrence-earlier s.list law s.year_shift t h field rule.unit (k * rule.every) (l * rule.every) step n e in
      let wrong : Some found.0 ≡ None = sym found.1 ∙ refused in
      cc)
      (λ same.
      let equal : l ≡ k = omega arith in
      let wrong : Some n ≡ None = sym e ∙ ap (constrained s t rule) equal ∙ refused in
      cc)

  -- nothing is listed where it isn't listed up to an index that is refused
  pub none-refused : (first last : ℤ) (i : ℕ) → NoneListed s t rule first last i → constrained s t rule i ≡ None → (k : ℕ) → listed s t rule first last k ≡ None
  none-refused first last i none refused k =
      by_lt {P = listed s t rule first last k ≡ None} k i (λ lt. none k lt)
      (λ ge. listed-outside s t rule first last k (λ n e _. refused-later i k refused ge n e))

  -- or whose day is past the window
  pub none-past : (first last : ℤ) (i : ℕ) (n : ℤ) → NoneListed s t rule first last i → constrained s t rule i ≡ Some n → last <ℤ n → (k : ℕ) → listed s t rule first last k ≡ None
  none-past first last i n none here past k =
      by_lt {P = listed s t rule first last k ≡ None} k i (λ lt. none k lt)
      (λ ge. listed-outside s t rule first last k (λ m e g.
      by_lt {P = ⊥} i k (λ lt. absurd (omega (arith, signed, g, later-day i k lt n m here e)))
      (λ le.
      let at : k ≡ i = omega arith in
      let same : n ≡ m = some_same (sym here ∙ sym (ap (constrained s t rule) at) ∙ e) in
      absurd (omega (arith, signed, g, same)))))

  module _ (first last : ℤ) (x : Occurrence) (given : IsFirstListed s t rule first last x) where
    first-day : constrained s t rule x.index ≡ Some x.day
    first-day =
        occurrence-kept s.list s.year_shift t rule.unit (overflow_of rule.missing) (x.index * rule.every) x.day
        (listed-some s t rule first last x.index x given.here).0

    -- its day lies in the window
    pub first-within : IsBetween first last x.day
    first-within = (listed-some s t rule first last x.index x given.here).1

    -- all up to it are before the next day
    pub first-before : AreBefore s t rule (x.day +ℤ pos 1) (x.index + 1)
    first-before k lt n e =
        by_lt {P = n <ℤ (x.day +ℤ pos 1)} k x.index (λ low. omega (arith, signed, later-day k x.index low n x.day e first-day))
        (λ high.
        let at : k ≡ x.index = omega arith in
        let same : n ≡ x.day = some_same (sym e ∙ ap (constrained s t rule) at ∙ first-day) in
        omega (arith, signed, same))

    first-few : x.index < index_count
    first-few =
        let few = occurrence-few s.list s.year_shift t rule.unit Constrain (x.index * rule.every) x.day first-day in
        let some = rule.some in
        let more : x.index * 1 ≤ x.index * rule.every = mul-le-mul_left x.index some in
        omega (arith, few, more)

    -- past it the same are listed in the window and after its day
    after-same : (k : ℕ) → x.index < k → listed s t rule (x.day +ℤ pos 1) last k ≡ listed s t rule first last k
    after-same k lt = by_kept (kept s t rule k) refl where
      tests : (n : ℤ) → x.day <ℤ n → is_between (x.day +ℤ pos 1) last n ≡ is_between first last n
      tests n later = ap₂ (λ (a b : Bool). a && b) (low-true (x.day +ℤ pos 1) n (omega (arith, signed)) ∙ sym (low-true first n (omega (arith, signed, first-within)))) refl where
        low-true : (a b : ℤ) → a ≤ℤ b → int_le a b ≡ true
        low-true a b le = grind (arith, ints)

      by_kept : (o : Option ℤ) → kept s t rule k ≡ o → listed s t rule (x.day +ℤ pos 1) last k ≡ listed s t rule first last k
      by_kept None e = listed-refused s t rule (x.day +ℤ pos 1) last k e ∙ sym (listed-refused s t rule first last k e)
      by_kept (Some n) e =
          let later = later-day x.index k lt x.day n first-day (occurrence-kept s.list s.year_shift t rule.unit (overflow_of rule.missing) (k * rule.every) n e) in
          listed-of s t rule (x.day +ℤ pos 1) last k (Some n) e ∙ ap (λ b. cond {A = Option Occurrence} b (Some (item k n)) None) (tests n later) ∙ sym (listed-of s t rule first last k (Some n) e)

    -- the list is the first one and those after its day
    pub occurrences-first : occurrences s t rule first last ≡ x ∷ occurrences s t rule (x.day +ℤ pos 1) last
    occurrences-first =
        gathered-first (listed s t rule first last) (listed s t rule (x.day +ℤ pos 1) last) x.index x given.here given.none
        (λ k le. before-none s t rule (x.day +ℤ pos 1) last (x.index + 1) first-before k (omega (arith, le))) after-same index_count first-few

    -- and the first one alone, on the last day
    pub occurrences-only : x.day ≡ last → occurrences s t rule first last ≡ x ∷ []
    occurrences-only ends =
        occurrences-first ∙ ap (λ xs. x ∷ xs) (occurrences-none s t rule (x.day +ℤ pos 1) last
        (λ k. listed-outside s t rule (x.day +ℤ pos 1) last k (λ n e g. absurd (omega (arith, signed, g, ends)))))

    -- the list is the first one and those in what is left after it
    pub occurrences-left : (o : Option Window) → IsLeft last x.day o → occurrences s t rule first last ≡ x ∷ occurrences_left s t rule o
    occurrences-left None ends = occurrences-only ends
    occurrences-left (Some w) is =
        occurrences-first ∙ sym (ap (λ (a : ℤ). x ∷ occurrences s t rule a w.last) is.0 ∙ ap (λ (b : ℤ). x ∷ occurrences s t rule (x.day +ℤ pos 1) b) is.1)

    -- and all up to it are before what is left
    pub first-before-left : (o : Option Window) → IsLeft last x.day o → (w : Window) → o ≡ Some w → AreBefore s t rule w.first (x.index + 1)
    first-before-left o is w e =
        let given = subst (IsLeft last x.day) e is in
        subst (λ (a : ℤ). AreBefore s t rule a (x.index + 1)) (sym given.0) first-before

-- ---- the list in the words of adding

-- a listed occurrence's index is small
index-few : (s : CalendarSystem) (t : Date) (rule : Rule) (k : ℕ) (n : ℤ) → kept s t rule k ≡ Some n → k < index_count
index-few s t rule k n e =
    let few = occurrence-few s.list s.year_shift t rule.unit (overflow_of rule.missing) (k * rule.every) n e in
    let more : k * 1 ≤ k * rule.every = mul-le-mul_left k rule.some in
    omega (arith, few, more)

pub occurrences-meant : (s : CalendarSystem) → IsLawful s.list → (t : Date) → IsValidDate s.list t → IsFieldYear (t.year +ℤ s.year_shift) → (rule : Rule) (first last : ℤ) → AreOccurrences s t rule first last (occurrences s t rule first last)
occurrences-meant s law t h field rule first last = record {
  rising = gathered-pairs (λ x y. (x.index < y.index) × (x.day <ℤ y.day)) (listed s t rule first last) rises index_count;
  exact = λ x. (from_list x, to_list x);
} where
  rises : (k l : ℕ) (x y : Occurrence) → k < l → listed s t rule first last k ≡ Some x → listed s t rule first last l ≡ Some y → (x.index < y.index) × (x.day <ℤ y.day)
  rises k l x y lt e f =
      let first_is = listed-some s t rule first last k x e in
      let second_is = listed-some s t rule first last l y f in
      let step : k * rule.every < l * rule.every = mul-lt-mul_of_pos_right lt rule.some in (
        omega (arith, first_is.2, second_is.2, lt),
        occurrence-rises s.list law s.year_shift t h.date rule.unit (k * rule.every) (l * rule.every) step x.day y.day
            (occurrence-kept s.list s.year_shift t rule.unit (overflow_of rule.missing) (k * rule.every) x.day first_is.0)
            (occurrence-kept s.list s.year_shift t rule.unit (overflow_of rule.missing) (l * rule.every) y.day second_is.0),
      )

  from_list : (x : Occurrence) → Contains (occurrences s t rule first last) x → Occurs s t rule (overflow_of rule.missing) x.index x.day × IsBetween first last x.day
  from_list x has =
      let found = gathered-some (listed s t rule first last) index_count x has in
      let parts = listed-some s t rule first last found.0 x found.2 in
      let here : kept s t rule x.index ≡ Some x.day = ap (kept s t rule) parts.2 ∙ parts.0 in
      (sum-of_occurrence s.list law s.year_shift t rule.unit (x.index * rule.every) (overflow_of rule.missing) x.day here, parts.1)

  to_list : (x : Occurrence) → Occurs s t rule (overflow_of rule.missing) x.index x.day × IsBetween first last x.day → Contains (occurrences s t rule first last) x
  to_list x ((u, sum, day), within) =
      let here : kept s t rule x.index ≡ Some x.day = occurrence-sum s.list law s.year_shift t rule.unit (x.index * rule.every) (overflow_of rule.missing) (Ok u) sum ∙ ap Some day in
      let whole : item x.index x.day ≡ x = refl in
      gathered-has (listed s t rule first last) index_count x.index x (index-few s t rule x.index x.day here)
      (listed-within s t rule first last x.index x.day here within)

-- a call that gives the first of what is left lowers its number
pub progress : {S A : Type 0} (rest : S → List A) (s t : S) (x : A) → rest s ≡ x ∷ rest t → MakesProgress (λ _. ⊤) (item_count rest) s (Some x) t
progress rest s t x e = record {
  on = λ _. (tt, tt, omega (arith, ap length e));
  keeps = tt;
  rests = λ _. tt;
}
