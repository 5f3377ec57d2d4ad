-- Places among the days of a set.
use Rattle.std.proofs.Common.{◌≡◌, ◌∙◌, ℕ, ◌+◌, ◌-◌, ◌*◌, ◌<◌, ◌≤◌, ◌&&◌, ◌||◌, ◌==◌, ◌⊎◌, inl, inr, Bool, true, false, cond, nat_eq, nat_le, nat_lt, List, length, refl, sym, ap, ap₂, subst, arith, ℤ, pos, ◌+ℤ◌, ◌<ℤ◌}
use Rattle.std.specs.Prelude.{IsTrue, ◌↔◌}
use Rattle.std.proofs.lemmas.Bool.Decides.{nat_tests}
use Rattle.cal_days.proofs.Signed.{signed, by_lt}
use Rattle.cal_rule.specs.Sets.{has_number, has_place}
use Rattle.cal_rule.specs.declared.place_set.Place.{Place}
use Rattle.cal_rule.specs.declared.place_set.Place.TheVariants.{FromFront, FromBack}
use Rattle.cal_rule.specs.declared.place_set.PlaceSet.{PlaceSet}
use Rattle.recurrence_sets.specs.Days.{HasCount, HasPlaceAmong}
use Rattle.recurrence_sets.specs.Numbers.{count_below, has_position}
use Rattle.recurrence_sets.specs.PeriodBits.{has_day}
use Rattle.recurrence_sets.specs.declared.period_days.PeriodDays.{PeriodDays}
use Rattle.recurrence_sets.proofs.DayLemmas.{count-like, count-unique}
use Rattle.recurrence_sets.proofs.NumberLemmas.{count-from, count-next, count-none, from_on, from_on-above}
use Rattle.recurrence_sets.proofs.SetLemmas.{Passing, before-count, day-at, day-offset, offset-few, passing-count}
use Rattle.recurrence_sets.proofs.WordLemmas.{number-past}

-- ---- tests

or-false : (b : Bool) → (b || false) ≡ b
or-false true = refl
or-false false = refl

or-cases : (a b : Bool) → (a || b) ≡ true → (a ≡ true) ⊎ (b ≡ true)
or-cases true b e = inl refl
or-cases false b e = inr e

or-first : (a b : Bool) → a ≡ true → (a || b) ≡ true
or-first true b e = refl
or-first false b e = cc

or-second : (a b : Bool) → b ≡ true → (a || b) ≡ true
or-second true b e = refl
or-second false b e = e

and-both : (a b : Bool) → (a && b) ≡ true → (a ≡ true) × (b ≡ true)
and-both true b e = (refl, e)
and-both false b e = cc

both-and : (a b : Bool) → a ≡ true → b ≡ true → (a && b) ≡ true
both-and true b e f = f
both-and false b e f = cc

false-true : {A : Type 0} → false ≡ true → A
false-true e = cc

-- ---- numbers that are kept

-- at first none is
pub kept-none : (old rest : ℕ → Bool) → ((i : ℕ) → old i ≡ false) → (i : ℕ) → old i ≡ (nat_lt i 0 && rest i)
kept-none old rest none i = let low : nat_lt i 0 ≡ false = grind (arith, nat_tests) in none i ∙ sym (ap (λ (b : Bool). b && rest i) low)

-- a position, by the numbers before it and in all
pub position-is : (positions : PlaceSet 7) (f : ℕ → Bool) (n before total : ℕ) → before ≡ count_below f n → total ≡ count_below f 448 →
    (has_place positions (FromFront (before + 1)) || has_place positions (FromBack (total - before))) ≡ has_position positions f 448 n
position-is positions f n before total one all =
    ap₂ (λ (b t : ℕ). has_place positions (FromFront (b + 1)) || has_place positions (FromBack (t - b))) one all

-- one number more is decided
pub kept-next : (f p old new : ℕ → Bool) (from n : ℕ) → from ≤ n → f n ≡ true → ((i : ℕ) → from ≤ i → i < n → f i ≡ false) →
    ((i : ℕ) → old i ≡ (nat_lt i from && (f i && p i))) → ((i : ℕ) → new i ≡ ((i == n && p n) || old i)) →
    (i : ℕ) → new i ≡ (nat_lt i (n + 1) && (f i && p i))
kept-next f p old new from n order here none before more i =
    by_lt {P = new i ≡ (nat_lt i (n + 1) && (f i && p i))} i from
    (λ low.
    let one : nat_lt i from ≡ true = grind (arith, nat_tests, low) in
    let two : nat_lt i (n + 1) ≡ true = grind (arith, nat_tests, low, order) in
    let apart : nat_eq i n ≡ false = grind (arith, nat_tests, low, order) in
    rw (more i, before i, one, two, apart) refl)
    (λ high. by_lt {P = new i ≡ (nat_lt i (n + 1) && (f i && p i))} i n
    (λ low.
    let one : nat_lt i from ≡ false = grind (arith, nat_tests, high) in
    let two : nat_lt i (n + 1) ≡ true = grind (arith, nat_tests, low) in
    let apart : nat_eq i n ≡ false = grind (arith, nat_tests, low) in
    let off = none i high low in
    rw (more i, before i, one, two, apart, off) refl)
    (λ past. by_lt {P = new i ≡ (nat_lt i (n + 1) && (f i && p i))} n i
    (λ far.
    let one : nat_lt i from ≡ false = grind (arith, nat_tests, high) in
    let two : nat_lt i (n + 1) ≡ false = grind (arith, nat_tests, far) in
    let apart : nat_eq i n ≡ false = grind (arith, nat_tests, far) in
    rw (more i, before i, one, two, apart) refl)
    (λ le.
    let same : n ≡ i = omega (arith, past, le) in
    let one : nat_lt n from ≡ false = grind (arith, nat_tests, order) in
    let two : nat_lt n (n + 1) ≡ true = grind (arith, nat_tests) in
    let equal : nat_eq n n ≡ true = grind (arith, nat_tests) in
    subst (λ (j : ℕ). new j ≡ (nat_lt j (n + 1) && (f j && p j))) same (rw (more n, before n, one, two, equal, here) (or-false (p n))))))

-- and is counted
pub count-here : (f : ℕ → Bool) (from n before : ℕ) → from ≤ n → f n ≡ true → ((i : ℕ) → from ≤ i → i < n → f i ≡ false) →
    before ≡ count_below f from → (before ≡ count_below f n) × (before + 1 ≡ count_below f (n + 1))
count-here f from n before order here none counted =
    let same = count-none f from n order none in
    let one = ap (λ (b : Bool). cond {A = ℕ} b 1 0) here in
    (omega (arith, counted, same), omega (arith, counted, same, one, count-next f n))

-- in the end all are decided
pub kept-all : (words : List ℕ) → length words ≡ 7 → (p new : ℕ → Bool) (from : ℕ) → ((i : ℕ) → from ≤ i → i < 64 * length words → has_number words i ≡ false) →
    ((i : ℕ) → new i ≡ (nat_lt i from && (has_number words i && p i))) → (i : ℕ) → new i ≡ (has_number words i && p i)
kept-all words long p new from none kept i =
    by_lt {P = new i ≡ (has_number words i && p i)} i from
    (λ low. let one : nat_lt i from ≡ true = grind (arith, nat_tests, low) in rw (kept i, one) refl)
    (λ high.
    let one : nat_lt i from ≡ false = grind (arith, nat_tests, high) in
    let off : has_number words i ≡ false = by_lt {P = has_number words i ≡ false} i (64 * length words) (λ lt. none i high lt) (λ ge. number-past words i ge) in
    kept i ∙ ap (λ (b : Bool). b && (has_number words i && p i)) one ∙ sym (ap (λ (b : Bool). b && p i) off))

-- ---- days that are kept

module _ (d : PeriodDays) (long : length d.words ≡ 7) (n : ℤ) (i : ℕ) (at : n ≡ d.first +ℤ pos i) (here : has_number d.words i ≡ true) where
  front-count : HasCount (λ m. IsTrue (has_day d m) × (m <ℤ n)) (count_below (has_number d.words) i)
  front-count = before-count d long n i (λ j lt. omega (arith, signed, at, lt)) (λ j within le. omega (arith, signed, at, le))

  -- those behind it
  behind-count : HasCount (λ m. IsTrue (has_day d m) × (n <ℤ m)) (count_below (from_on (has_number d.words) (i + 1)) 448)
  behind-count =
      count-like (Passing (from_on (has_number d.words) (i + 1)) d.first 448) (λ m. IsTrue (has_day d m) × (n <ℤ m))
      (count_below (from_on (has_number d.words) (i + 1)) 448) out into (passing-count (from_on (has_number d.words) (i + 1)) d.first 448) where
        out : (m : ℤ) → Passing (from_on (has_number d.words) (i + 1)) d.first 448 m → IsTrue (has_day d m) × (n <ℤ m)
        out m p =
            let both = and-both (has_number d.words p.offset) (nat_le (i + 1) p.offset) p.has in
            let late : i < p.offset = grind (arith, nat_tests, both.1) in
            (ap (has_day d) p.is ∙ day-at d p.offset ∙ both.0, omega (arith, signed, at, p.is, late))

        into : (m : ℤ) → IsTrue (has_day d m) × (n <ℤ m) → Passing (from_on (has_number d.words) (i + 1)) d.first 448 m
        into m (has, late) =
            let o = day-offset d m has in
            record {
              offset = o.offset;
              below = offset-few d long o.offset o.has;
              is = o.is;
              has = from_on-above (has_number d.words) (i + 1) o.offset (omega (arith, signed, at, o.is, late)) ∙ o.has;
            }

  few : i < 448
  few = offset-few d long i here

  -- how many are behind it
  behind : count_below (has_number d.words) 448 - count_below (has_number d.words) i ≡ count_below (from_on (has_number d.words) (i + 1)) 448 + 1
  behind =
      let one = ap (λ (b : Bool). cond {A = ℕ} b 1 0) here in
      omega (arith, count-from (has_number d.words) (i + 1) 448 (omega (arith, few)), count-next (has_number d.words) i, one)

  Placed : PlaceSet 7 → Type 0
  Placed positions = (place : Place) × IsTrue (has_place positions place) × HasPlaceAmong (λ m. IsTrue (has_day d m)) n place

  -- its place is in the set
  pub placed-of : (positions : PlaceSet 7) → has_position positions (has_number d.words) 448 i ≡ true →
      (place : Place) × IsTrue (has_place positions place) × HasPlaceAmong (λ m. IsTrue (has_day d m)) n place
  placed-of positions has = by_end (or-cases _ _ has) where
    by_end : (has_place positions (FromFront (count_below (has_number d.words) i + 1)) ≡ true)
        ⊎ (has_place positions (FromBack (count_below (has_number d.words) 448 - count_below (has_number d.words) i)) ≡ true) →
        (place : Place) × IsTrue (has_place positions place) × HasPlaceAmong (λ m. IsTrue (has_day d m)) n place
    by_end (inl front) = (FromFront (count_below (has_number d.words) i + 1), front, (count_below (has_number d.words) i, refl, front-count))
    by_end (inr back) = (
      FromBack (count_below (has_number d.words) 448 - count_below (has_number d.words) i),
      back,
      (count_below (from_on (has_number d.words) (i + 1)) 448, behind, behind-count),
    )

  -- and no other place is it
  pub position-of : (positions : PlaceSet 7) (place : Place) → IsTrue (has_place positions place) → HasPlaceAmong (λ m. IsTrue (has_day d m)) n place →
      has_position positions (has_number d.words) 448 i ≡ true
  position-of positions (FromFront k) has (j, is, count) =
      let same = count-unique (λ m. IsTrue (has_day d m) × (m <ℤ n)) j (count_below (has_number d.words) i) count front-count in
      let equal : k ≡ count_below (has_number d.words) i + 1 = omega (arith, is, same) in
      or-first _ _ (subst (λ (m : ℕ). has_place positions (FromFront m) ≡ true) equal has)
  position-of positions (FromBack k) has (j, is, count) =
      let same = count-unique (λ m. IsTrue (has_day d m) × (n <ℤ m)) j (count_below (from_on (has_number d.words) (i + 1)) 448) count behind-count in
      let equal : k ≡ count_below (has_number d.words) 448 - count_below (has_number d.words) i = omega (arith, is, same, behind) in
      or-second (has_place positions (FromFront (count_below (has_number d.words) i + 1))) _ (subst (λ (m : ℕ). has_place positions (FromBack m) ≡ true) equal has)

pub places-meant : (d result : PeriodDays) → length d.words ≡ 7 → result.first ≡ d.first → (positions : PlaceSet 7) →
    ((i : ℕ) → has_number result.words i ≡ (has_number d.words i && has_position positions (has_number d.words) 448 i)) →
    (n : ℤ) → IsTrue (has_day result n) ↔ (IsTrue (has_day d n) × (place : Place) × IsTrue (has_place positions place) × HasPlaceAmong (λ m. IsTrue (has_day d m)) n place)
places-meant d result long first positions kept n = (out, into) where
  out : IsTrue (has_day result n) → IsTrue (has_day d n) × (place : Place) × IsTrue (has_place positions place) × HasPlaceAmong (λ m. IsTrue (has_day d m)) n place
  out has =
      let o = day-offset result n has in
      let at : n ≡ d.first +ℤ pos o.offset = omega (arith, signed, o.is, first) in
      let both = and-both (has_number d.words o.offset) (has_position positions (has_number d.words) 448 o.offset) (sym (kept o.offset) ∙ o.has) in
      let placed = placed-of d long n o.offset at both.0 positions both.1 in
      (ap (has_day d) at ∙ day-at d o.offset ∙ both.0, placed.0, placed.1, placed.2)

  into : IsTrue (has_day d n) × (place : Place) × IsTrue (has_place positions place) × HasPlaceAmong (λ m. IsTrue (has_day d m)) n place → IsTrue (has_day result n)
  into (has, place, there, among) =
      let o = day-offset d n has in
      let position = position-of d long n o.offset o.is o.has positions place there among in
      let at : n ≡ result.first +ℤ pos o.offset = omega (arith, signed, o.is, first) in
      ap (has_day result) at ∙ day-at result o.offset ∙ kept o.offset ∙ both-and _ _ o.has position

-- a set of no day has no number
pub none-numbers : (d : PeriodDays) → ((n : ℤ) → has_day d n ≡ false) → (i : ℕ) → has_number d.words i ≡ false
none-numbers d none i = sym (day-at d i) ∙ none (d.first +ℤ pos i)
