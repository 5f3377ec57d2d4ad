-- Readings of the fields of a record, one field behind the other.
use Rattle.std.proofs.Common.{◌≡◌, ℕ, zero, suc, ◌<◌, ◌≤◌, Bool, true, false, ◌⊎◌, inl, inr, ◌↔◌, List, [], ◌∷◌, ◌++◌, get_or, length, take, Option, Some, None, is_some, Result, Ok, Err, refl, ◌∙◌, sym, ap, subst, arith}
use Rattle.std.proofs.lemmas.Bool.{cases_lt, false≢true}
use Rattle.std.proofs.lemmas.List.{get_or_append_left, get_or-append-add, get_or-take, length-take-le}
use Rattle.std.specs.Option.{unwrap_or}
use Rattle.cal_holidays.specs.Records.{TenFields, and_then, by_places, field}
use Rattle.record_faults.specs.FieldTexts.{may_stand}
use Rattle.record_faults.specs.RecordFaults.{expected_at}

-- the fields in a row
abbrev pub listed : TenFields → List (List ℕ)
listed f = f.kind ∷ f.name ∷ f.calendar ∷ f.month ∷ f.value ∷ f.last ∷ f.since ∷ f.until ∷ f.every ∷ f.moved ∷ []

-- the field at a place, counted from 0
abbrev pub at : TenFields → ℕ → List ℕ
at f n = get_or (listed f) n []

-- the fields before a place are the same
abbrev pub Agree : ℕ → TenFields → TenFields → Type 0
Agree k f g = (i : ℕ) → i < k → at f i ≡ at g i

pub fewer : (m k : ℕ) (f g : TenFields) → m ≤ k → Agree k f g → Agree m f g
fewer m k f g le all i lt = all i (omega (arith, le, lt))

pub both : (k : ℕ) (f g h : TenFields) → Agree k f g → Agree k g h → Agree k f h
both k f g h a b i lt = a i lt ∙ b i lt

pub back : (k : ℕ) (f g : TenFields) → Agree k f g → Agree k g f
back k f g a i lt = sym (a i lt)

-- a list's fields, by their places
pub at_places : (xs : List (List ℕ)) (i : ℕ) → i < 10 → at (by_places xs) i ≡ get_or xs i []
at_places xs zero lt = refl
at_places xs (suc zero) lt = refl
at_places xs (suc (suc zero)) lt = refl
at_places xs (suc (suc (suc zero))) lt = refl
at_places xs (suc (suc (suc (suc zero)))) lt = refl
at_places xs (suc (suc (suc (suc (suc zero))))) lt = refl
at_places xs (suc (suc (suc (suc (suc (suc zero)))))) lt = refl
at_places xs (suc (suc (suc (suc (suc (suc (suc zero))))))) lt = refl
at_places xs (suc (suc (suc (suc (suc (suc (suc (suc zero)))))))) lt = refl
at_places xs (suc (suc (suc (suc (suc (suc (suc (suc (suc zero))))))))) lt = refl
at_places xs (suc (suc (suc (suc (suc (suc (suc (suc (suc (suc i)))))))))) lt = absurd (omega (arith, lt))

-- whether a text is what may stand in the field of a record at a place, counted from 0
unfoldable pub stands_at : List (List ℕ) → ℕ → List ℕ → Bool
stands_at fields k text = may_stand (expected_at fields (suc k)) fields text

-- what is read of some fields, and the number of the first invalid one of them, from the place `low` on to before
-- `top`; in one record, `fields`, something is known of those before them: `K`
pub record Reads {U : Type 0} (fields : List (List ℕ)) (K : Type 0) (low top : ℕ) (R : TenFields → Result U ℕ)
    : Type 0 where
  -- an invalid field is one of them
  pub from : (f : TenFields) (k : ℕ) → R f ≡ Err (suc k) → low ≤ k
  pub to : (f : TenFields) (k : ℕ) → R f ≡ Err (suc k) → k < top
  pub some : (f : TenFields) → R f ≡ Err 0 → ⊥
  -- whether it is invalid, the fields up to it say
  pub invalid : (f g : TenFields) (k : ℕ) → R f ≡ Err (suc k) → Agree (suc k) f g → R g ≡ Err (suc k)
  pub valid : (f g : TenFields) (x : U) → R f ≡ Ok x → Agree top f g → R g ≡ Ok x
  -- with others in place of it and of those behind it, they are valid
  pub mended : (f : TenFields) (k : ℕ) → R f ≡ Err (suc k) → (g : TenFields) × Agree k f g × ((x : U) × (R g ≡ Ok x))
  pub fresh : (f : TenFields) → (g : TenFields) × Agree low f g × ((x : U) × (R g ≡ Ok x))
  -- the fields behind the sixth may be empty
  pub filled : (f : TenFields) (k : ℕ) → R f ≡ Err (suc k) → 6 ≤ k → at f k ≡ [] → ⊥
  -- behind the fields before the invalid one of that record, a text is wrong exactly if it isn't what may stand there
  pub tested : K → (g : TenFields) (k : ℕ) → R (by_places fields) ≡ Err (suc k) → Agree k (by_places fields) g
      → (stands_at fields k (at g k) ≡ false) ↔ (R g ≡ Err (suc k))

abbrev is_ok : {U : Type 0} → Result U ℕ → Bool
is_ok (Ok x) = true
is_ok (Err k) = false

abbrev pub number_of : {U : Type 0} → Result U ℕ → ℕ
number_of (Err k) = k
number_of (Ok x) = 0

abbrev place_of : {U : Type 0} → Result U ℕ → ℕ
place_of (Err (suc k)) = k
place_of (Err zero) = 0
place_of (Ok x) = 0

-- a value is no number of a field
pub never : {U A : Type 0} (k : ℕ) (x : U) → Err k ≡ Ok x → A
never k x e = absurd (false≢true (ap is_ok e))

pub some_is : {T : Type 0} {x y : T} → Some x ≡ Some y → x ≡ y
some_is {x = x} e = ap (λ o. unwrap_or o x) e

pub none_some : {T A : Type 0} (y : T) → None ≡ Some y → A
none_some y e = absurd (false≢true (ap is_some e))

-- nothing is wrong with what is made of no field
pub reads_all : {fields : List (List ℕ)} {K U : Type 0} (low : ℕ) (x : U) → Reads fields K low low (λ f. Ok x)
reads_all low x = record {
  from = λ f k e. never (suc k) x (sym e);
  to = λ f k e. never (suc k) x (sym e);
  some = λ f e. never 0 x (sym e);
  invalid = λ f g k e a. never (suc k) x (sym e);
  valid = λ f g y e a. e;
  mended = λ f k e. never (suc k) x (sym e);
  fresh = λ f. (f, (λ i lt. refl), (x, refl));
  filled = λ f k e le empty. never (suc k) x (sym e);
  tested = λ know g k e a. never (suc k) x (sym e);
}

-- a text in place of the field at a place, and empty fields behind it
put : ℕ → List ℕ → TenFields → TenFields
put n s f = by_places (take n (listed f) ++ s ∷ [])

put_there : (n : ℕ) (s : List ℕ) (f : TenFields) → n < 10 → at (put n s f) n ≡ s
unfolding put
put_there n s f lt =
    let size : length (take n (listed f)) ≡ n = length-take-le n (listed f) (omega (arith, lt)) in
    at_places (take n (listed f) ++ s ∷ []) n lt
    ∙ (ap (λ m. get_or (take n (listed f) ++ s ∷ []) m []) (sym size ∙ omega (arith))
    ∙ get_or-append-add (take n (listed f)) (s ∷ []) 0 [])

put_kept : (n : ℕ) (s : List ℕ) (f : TenFields) → n < 10 → Agree n f (put n s f)
unfolding put
put_kept n s f lt i below =
    let size : length (take n (listed f)) ≡ n = length-take-le n (listed f) (omega (arith, lt)) in
    sym (at_places (take n (listed f) ++ s ∷ []) i (omega (arith, lt, below))
    ∙ (get_or_append_left (take n (listed f)) (s ∷ []) [] i (omega (arith, size, below))
    ∙ get_or-take n (listed f) i [] below))

-- a field at a place, and what is read behind it: with the field at the place invalid, nothing else is read
pub reads_field : {fields : List (List ℕ)} {K T U : Type 0} (n top : ℕ) (p : List ℕ → Option T)
    (next : T → TenFields → Result U ℕ)
    (s : List ℕ) (x : T) → p s ≡ Some x → n < 10 → n < top → (6 ≤ n → (y : T) × (p [] ≡ Some y))
    → (K → (t : List ℕ) → stands_at fields n t ≡ is_some (p t))
    → ((t : List ℕ) (y : T) → p t ≡ Some y → Reads fields (K × (at (by_places fields) n ≡ t)) (suc n) top (next y))
    → Reads fields K n top (λ f. field (suc n) (p (at f n)) (λ y. next y f))
reads_field {fields} {K} {T} {U} n top p next s x good small most optional test after = record {
  from = λ f k e. from f k (p (at f n)) refl e;
  to = λ f k e. to f k (p (at f n)) refl e;
  some = λ f e. some f (p (at f n)) refl e;
  invalid = λ f g k e a. invalid f g k a (p (at f n)) refl e;
  valid = λ f g y e a. valid f g y a (p (at f n)) refl e;
  mended = λ f k e. mended f k (p (at f n)) refl e;
  fresh = fresh;
  filled = λ f k e le empty. filled f k le empty (p (at f n)) refl e;
  tested = λ know g k e a. tested know g k a (p (at (by_places fields) n)) refl e;
}
  where
    whole : TenFields → Result U ℕ
    whole f = field (suc n) (p (at f n)) (λ y. next y f)

    -- the field is the same
    same : (f g : TenFields) (k : ℕ) → n < k → Agree k f g → (o : Option T) → p (at f n) ≡ o → p (at g n) ≡ o
    same f g k lt a o e = ap p (sym (a n lt)) ∙ e

    on : (g : TenFields) (y : T) (r : Result U ℕ) → p (at g n) ≡ Some y → next y g ≡ r → field (suc n) (p (at g n)) (λ z. next z g) ≡ r
    on g y r e f = ap (λ o. field (suc n) o (λ z. next z g)) e ∙ f

    from : (f : TenFields) (k : ℕ) (o : Option T) → p (at f n) ≡ o → field (suc n) o (λ y. next y f) ≡ Err (suc k) → n ≤ k
    from f k None is e =
        let here : n ≡ k = ap place_of e in
        omega (arith, here)
    from f k (Some y) is e = omega (arith, (after (at f n) y is).from f k e)

    to : (f : TenFields) (k : ℕ) (o : Option T) → p (at f n) ≡ o → field (suc n) o (λ y. next y f) ≡ Err (suc k) → k < top
    to f k None is e =
        let here : n ≡ k = ap place_of e in
        omega (arith, most, here)
    to f k (Some y) is e = (after (at f n) y is).to f k e

    some : (f : TenFields) (o : Option T) → p (at f n) ≡ o → field (suc n) o (λ y. next y f) ≡ Err 0 → ⊥
    some f None is e =
        let wrong : suc n ≡ 0 = ap number_of e in
        omega (arith, wrong)
    some f (Some y) is e = (after (at f n) y is).some f e

    invalid : (f g : TenFields) (k : ℕ) → Agree (suc k) f g → (o : Option T) → p (at f n) ≡ o
        → field (suc n) o (λ y. next y f) ≡ Err (suc k) → field (suc n) (p (at g n)) (λ y. next y g) ≡ Err (suc k)
    invalid f g k a None is e =
        let here : n ≡ k = ap place_of e in
        ap (λ o. field (suc n) o (λ z. next z g)) (same f g (suc k) (omega (arith, here)) a None is) ∙ e
    invalid f g k a (Some y) is e =
        on g y (Err (suc k)) (same f g (suc k) (omega (arith, (after (at f n) y is).from f k e)) a (Some y) is) ((after (at f n) y is).invalid f g k e a)

    valid : (f g : TenFields) (z : U) → Agree top f g → (o : Option T) → p (at f n) ≡ o
        → field (suc n) o (λ y. next y f) ≡ Ok z → field (suc n) (p (at g n)) (λ y. next y g) ≡ Ok z
    valid f g z a None is e = never (suc n) z e
    valid f g z a (Some y) is e = on g y (Ok z) (same f g top most a (Some y) is) ((after (at f n) y is).valid f g z e a)

    fresh : (f : TenFields) → (g : TenFields) × Agree n f g × ((z : U) × (field (suc n) (p (at g n)) (λ y. next y g) ≡ Ok z))
    fresh f =
        let first = put n s f in
        let (g, a, (z, ok)) = (after s x good).fresh first in
        let there : p (at first n) ≡ Some x = ap p (put_there n s f small) ∙ good in (
          g,
          both n f first g (put_kept n s f small) (fewer n (suc n) first g (omega (arith)) a),
          (z, on g x (Ok z) (same first g (suc n) (omega (arith)) a (Some x) there) ok),
        )

    mended : (f : TenFields) (k : ℕ) (o : Option T) → p (at f n) ≡ o → field (suc n) o (λ y. next y f) ≡ Err (suc k)
        → (g : TenFields) × Agree k f g × ((z : U) × (field (suc n) (p (at g n)) (λ y. next y g) ≡ Ok z))
    mended f k None is e = subst (λ m. (g : TenFields) × Agree m f g × ((z : U) × (field (suc n) (p (at g n)) (λ y. next y g) ≡ Ok z))) (ap place_of e) (fresh f)
    mended f k (Some y) is e =
        let (g, a, (z, ok)) = (after (at f n) y is).mended f k e in
        (g, a, (z, on g y (Ok z) (same f g k (omega (arith, (after (at f n) y is).from f k e)) a (Some y) is) ok))

    filled : (f : TenFields) (k : ℕ) → 6 ≤ k → at f k ≡ [] → (o : Option T) → p (at f n) ≡ o
        → field (suc n) o (λ y. next y f) ≡ Err (suc k) → ⊥
    filled f k le empty None is e =
        let here : n ≡ k = ap place_of e in
        let (y, there) = optional (omega (arith, here, le)) in
        none_some y (sym is ∙ (ap (λ i. p (at f i)) here ∙ (ap p empty ∙ there)))
    filled f k le empty (Some y) is e = (after (at f n) y is).filled f k e le empty

    -- the field itself
    here : K → (g : TenFields) (o : Option T) → p (at g n) ≡ o
        → (stands_at fields n (at g n) ≡ false) ↔ (whole g ≡ Err (suc n))
    here know g None is = (
      (λ w. ap (λ o. field (suc n) o (λ z. next z g)) is),
      (λ w. test know (at g n) ∙ ap is_some is),
    )
    here know g (Some y) is = (
      (λ w. absurd (false≢true (sym w ∙ (test know (at g n) ∙ ap is_some is)))),
      (λ w. absurd (omega (arith, (after (at g n) y is).from g n (sym (on g y (next y g) is refl) ∙ w)))),
    )

    tested : K → (g : TenFields) (k : ℕ) → Agree k (by_places fields) g → (o : Option T)
        → p (at (by_places fields) n) ≡ o → field (suc n) o (λ y. next y (by_places fields)) ≡ Err (suc k)
        → (stands_at fields k (at g k) ≡ false) ↔ (whole g ≡ Err (suc k))
    tested know g k a None is e =
        subst (λ m. (stands_at fields m (at g m) ≡ false) ↔ (whole g ≡ Err (suc m))) (ap place_of e)
        (here know g (p (at g n)) refl)
    tested know g k a (Some y) is e =
        let read = after (at (by_places fields) n) y is in
        let lt : n < k = omega (arith, read.from (by_places fields) k e) in
        let step : whole g ≡ next y g = on g y (next y g) (same (by_places fields) g k lt a (Some y) is) refl in
        let (one, two) = read.tested (know, refl) g k e a in
        ((λ w. step ∙ one w), (λ w. two (sym step ∙ w)))

-- two readings, one behind the other
pub reads_then : {fields : List (List ℕ)} {K T U : Type 0} (low mid top : ℕ) (first : TenFields → Result T ℕ)
    (next : T → TenFields → Result U ℕ)
    → mid ≤ top → low ≤ mid → Reads fields K low mid first → ((y : T) → Reads fields K mid top (next y))
    → Reads fields K low top (λ f. and_then (first f) (λ y. next y f))
reads_then {fields} {K} {T} {U} low mid top first next up less before behind = record {
  from = λ f k e. from f k (first f) refl e;
  to = λ f k e. to f k (first f) refl e;
  some = λ f e. some f (first f) refl e;
  invalid = λ f g k e a. invalid f g k a (first f) refl e;
  valid = λ f g y e a. valid f g y a (first f) refl e;
  mended = λ f k e. mended f k (first f) refl e;
  fresh = fresh;
  filled = λ f k e le empty. filled f k le empty (first f) refl e;
  tested = λ know g k e a. tested know g k a (first (by_places fields)) refl e;
}
  where
    on : (g : TenFields) (y : T) (r : Result U ℕ) → first g ≡ Ok y → next y g ≡ r → and_then (first g) (λ z. next z g) ≡ r
    on g y r e f = ap (λ o. and_then o (λ z. next z g)) e ∙ f

    from : (f : TenFields) (k : ℕ) (o : Result T ℕ) → first f ≡ o → and_then o (λ y. next y f) ≡ Err (suc k) → low ≤ k
    from f k (Err j) is e = before.from f k (is ∙ ap Err (ap number_of e))
    from f k (Ok y) is e = omega (arith, less, (behind y).from f k e)

    to : (f : TenFields) (k : ℕ) (o : Result T ℕ) → first f ≡ o → and_then o (λ y. next y f) ≡ Err (suc k) → k < top
    to f k (Err j) is e = omega (arith, up, before.to f k (is ∙ ap Err (ap number_of e)))
    to f k (Ok y) is e = (behind y).to f k e

    some : (f : TenFields) (o : Result T ℕ) → first f ≡ o → and_then o (λ y. next y f) ≡ Err 0 → ⊥
    some f (Err j) is e = before.some f (is ∙ ap Err (ap number_of e))
    some f (Ok y) is e = (behind y).some f e

    invalid : (f g : TenFields) (k : ℕ) → Agree (suc k) f g → (o : Result T ℕ) → first f ≡ o
        → and_then o (λ y. next y f) ≡ Err (suc k) → and_then (first g) (λ y. next y g) ≡ Err (suc k)
    invalid f g k a (Err j) is e =
        ap (λ o. and_then o (λ z. next z g)) (before.invalid f g k (is ∙ ap Err (ap number_of e)) a)
    invalid f g k a (Ok y) is e =
        on g y (Err (suc k)) (before.valid f g y is (fewer mid (suc k) f g (omega (arith, (behind y).from f k e)) a)) ((behind y).invalid f g k e a)

    valid : (f g : TenFields) (z : U) → Agree top f g → (o : Result T ℕ) → first f ≡ o
        → and_then o (λ y. next y f) ≡ Ok z → and_then (first g) (λ y. next y g) ≡ Ok z
    valid f g z a (Err j) is e = never j z e
    valid f g z a (Ok y) is e = on g y (Ok z) (before.valid f g y is (fewer mid top f g up a)) ((behind y).valid f g z e a)

    join : (f g : TenFields) (k : ℕ) (y : T) → low ≤ k → k ≤ mid → Agree k f g → first g ≡ Ok y
        → (h : TenFields) × Agree k f h × ((z : U) × (and_then (first h) (λ w. next w h) ≡ Ok z))
    join f g k y lo hi a e =
        let (h, b, (z, ok)) = (behind y).fresh g in
        (h, both k f g h a (fewer k mid g h hi b), (z, on h y (Ok z) (before.valid g h y e b) ok))

    fresh : (f : TenFields) → (g : TenFields) × Agree low f g × ((z : U) × (and_then (first g) (λ y. next y g) ≡ Ok z))
    fresh f =
        let (g, a, (y, ok)) = before.fresh f in
        join f g low y (omega (arith)) less a ok

    mended : (f : TenFields) (k : ℕ) (o : Result T ℕ) → first f ≡ o → and_then o (λ y. next y f) ≡ Err (suc k)
        → (g : TenFields) × Agree k f g × ((z : U) × (and_then (first g) (λ y. next y g) ≡ Ok z))
    mended f k (Err j) is e =
        let (g, a, (y, ok)) = before.mended f k (is ∙ ap Err (ap number_of e)) in
        join f g k y (before.from f k (is ∙ ap Err (ap number_of e))) (omega (arith, before.to f k (is ∙ ap Err (ap number_of e)))) a ok
    mended f k (Ok y) is e =
        let (g, a, (z, ok)) = (behind y).mended f k e in
        (g, a, (z, on g y (Ok z) (before.valid f g y is (fewer mid k f g ((behind y).from f k e) a)) ok))

    filled : (f : TenFields) (k : ℕ) → 6 ≤ k → at f k ≡ [] → (o : Result T ℕ) → first f ≡ o
        → and_then o (λ y. next y f) ≡ Err (suc k) → ⊥
    filled f k le empty (Err j) is e = before.filled f k (is ∙ ap Err (ap number_of e)) le empty
    filled f k le empty (Ok y) is e = (behind y).filled f k e le empty

    tested : K → (g : TenFields) (k : ℕ) → Agree k (by_places fields) g → (o : Result T ℕ)
        → first (by_places fields) ≡ o → and_then o (λ y. next y (by_places fields)) ≡ Err (suc k)
        → (stands_at fields k (at g k) ≡ false) ↔ (and_then (first g) (λ y. next y g) ≡ Err (suc k))
    tested know g k a (Err j) is e =
        let wrong : first (by_places fields) ≡ Err (suc k) = is ∙ ap Err (ap number_of e) in
        let lt : k < mid = before.to (by_places fields) k wrong in
        let (one, two) = before.tested know g k wrong a in
        ((λ w. ap (λ o. and_then o (λ z. next z g)) (one w)), (λ w. two (back_to lt (first g) refl w)))
      where
        back_to : k < mid → (r : Result T ℕ) → first g ≡ r → and_then r (λ y. next y g) ≡ Err (suc k)
            → first g ≡ Err (suc k)
        back_to lt (Err i) there w = there ∙ ap Err (ap number_of w)
        back_to lt (Ok y) there w = absurd (omega (arith, lt, (behind y).from g k w))
    tested know g k a (Ok y) is e =
        let agree : Agree mid (by_places fields) g =
        fewer mid k (by_places fields) g ((behind y).from (by_places fields) k e) a in
        let step = on g y (next y g) (before.valid (by_places fields) g y is agree) refl in
        let (one, two) = (behind y).tested know g k e a in
        ((λ w. step ∙ one w), (λ w. two (sym step ∙ w)))

-- a text that may stand in the first invalid field goes on to a record in which no field is invalid
pub goes_on : {fields : List (List ℕ)} {K U : Type 0} {low top : ℕ} (R : TenFields → Result U ℕ)
    → Reads fields K low top R → K → (k : ℕ) → k < 10 → R (by_places fields) ≡ Err (suc k)
    → (text : List ℕ) → stands_at fields k text ≡ true
    → (g : TenFields) × (Agree k (by_places fields) g × (at g k ≡ text)) × ((x : U) × (R g ≡ Ok x))
goes_on {fields} {K} {U} {low} {top} R reads know k small e text stands = by (R first) refl
  where
    own : TenFields
    own = by_places fields

    first : TenFields
    first = put k text own

    kept : Agree k own first
    kept = put_kept k text own small

    there : at first k ≡ text
    there = put_there k text own small

    -- no field up to there is invalid
    past : (j : ℕ) → R first ≡ Err (suc j) → (j < k) ⊎ (k ≤ j) → (k < j) ⊎ (j ≤ k) → k < j
    past j is (inl lt) other =
        let agree = back (suc j) own first (fewer (suc j) k own first (omega (arith, lt)) kept) in
        let same : k ≡ j = ap place_of (sym e ∙ reads.invalid first own j is agree) in
        absurd (omega (arith, lt, same))
    past j is (inr le) (inl lt) = lt
    past j is (inr le) (inr ge) =
        let same : j ≡ k = omega (arith, le, ge) in
        let wrong = (reads.tested know first k e kept).1 (is ∙ ap (λ i. Err (suc i)) same) in
        absurd (false≢true (sym wrong ∙ (ap (stands_at fields k) there ∙ stands)))

    by : (r : Result U ℕ) → R first ≡ r
        → (g : TenFields) × (Agree k own g × (at g k ≡ text)) × ((x : U) × (R g ≡ Ok x))
    by (Ok x) is = (first, (kept, there), (x, is))
    by (Err zero) is = absurd (reads.some first is)
    by (Err (suc j)) is =
        let lt : k < j = past j is (cases_lt j k) (cases_lt k j) in
        let (g, a, ok) = reads.mended first j is in
        (g, (both k own first g kept (fewer k j first g (omega (arith, lt)) a), sym (a k lt) ∙ there), ok)
