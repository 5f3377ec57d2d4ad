-- Days of a kind, and how many there are.
use Rattle.std.proofs.Common.{◌≡◌, ◌∙◌, ℕ, zero, suc, ◌+◌, ◌<◌, ◌≤◌, ◌⊎◌, inl, inr, List, [], ◌∷◌, ◌++◌, length, get_or, refl, sym, ap, subst, subst₂, arith, ℤ, pos, ◌+ℤ◌, ◌≤ℤ◌, ◌<ℤ◌}
use Rattle.std.specs.Prelude.{AllPairs, Contains}
use Rattle.std.proofs.lemmas.List.{get_or_append_left, get_or_default, get_or_push, length_push}
use Rattle.std.proofs.lemmas.List.Elements.{Contains-append_left, Contains-get_or, Contains-push, Contains-push_cases}
use native.Mathlib.Bridge.{le_prop}
use lib.Dec.{T_prop}
use mathlib.Core.Logic.{∥∥₁_elim, ∥∥₁_map}
use Rattle.cal_days.proofs.Signed.{signed, by_lt}
use Rattle.recurrence_sets.specs.Days.{AreDays, HasCount}

int_le_prop : (a b : ℤ) → IsProp (a ≤ℤ b)
int_le_prop a b = hlevel T_prop

-- ---- one count

-- an element of one list stands as far behind in another that has all of them
behind : (xs ys : List ℤ) → AllPairs (λ m n. m <ℤ n) xs → AllPairs (λ m n. m <ℤ n) ys → ((n : ℤ) → Contains xs n → Contains ys n) →
    (i : ℕ) → i < length xs → (k : ℕ) × (k < length ys) × (get_or ys k (pos 0) ≡ get_or xs i (pos 0)) × (i ≤ k)
behind xs ys rising rises all zero within =
    let found = all (get_or xs 0 (pos 0)) (Contains-get_or xs 0 (pos 0) within) in
    (found.0, found.1, get_or_default ys found.0 (pos 0) (get_or xs 0 (pos 0)) found.1 ∙ found.2, omega arith)
behind xs ys rising rises all (suc i) within =
    let before = behind xs ys rising rises all i (omega (arith, within)) in
    let found = all (get_or xs (suc i) (pos 0)) (Contains-get_or xs (suc i) (pos 0) within) in
    let at : get_or ys found.0 (pos 0) ≡ get_or xs (suc i) (pos 0) = get_or_default ys found.0 (pos 0) (get_or xs (suc i) (pos 0)) found.1 ∙ found.2 in
    let later : get_or xs i (pos 0) <ℤ get_or xs (suc i) (pos 0) = rising i (suc i) (pos 0) (omega arith) within in
    (found.0, found.1, at, omega (arith, before.3, order found.0 found.1 at before.0 before.1 before.2 later)) where
      order : (k : ℕ) → k < length ys → get_or ys k (pos 0) ≡ get_or xs (suc i) (pos 0) → (j : ℕ) → j < length ys → get_or ys j (pos 0) ≡ get_or xs i (pos 0) →
          get_or xs i (pos 0) <ℤ get_or xs (suc i) (pos 0) → j < k
      order k kin kat j jin jat later =
          by_lt {P = j < k} j k (λ lt. lt)
          (λ le. by_lt {P = j < k} k j
          (λ lt. let turned = rises k j (pos 0) lt jin in absurd (omega (arith, signed, turned, kat, jat, later)))
          (λ ge. let same : j ≡ k = omega (arith, le, ge) in
          let equal = ap (λ (p : ℕ). get_or ys p (pos 0)) same in
          absurd (omega (arith, signed, equal, kat, jat, later))))

fewer : (xs ys : List ℤ) → AllPairs (λ m n. m <ℤ n) xs → AllPairs (λ m n. m <ℤ n) ys → ((n : ℤ) → Contains xs n → Contains ys n) → length xs ≤ length ys
fewer xs ys rising rises all =
    by_lt {P = length xs ≤ length ys} (length ys) (length xs)
    (λ more. let found = behind xs ys rising rises all (length ys) more in absurd (omega (arith, found.1, found.3)))
    (λ le. le)

-- a kind has no more days than one that has all of them
pub count-within : (P Q : ℤ → Type 0) (i j : ℕ) → ((n : ℤ) → P n → Q n) → HasCount P i → HasCount Q j → i ≤ j
count-within P Q i j all one two =
    ∥∥₁_elim one le_prop
    (λ (xs, are, is). ∥∥₁_elim two le_prop
    (λ (ys, have, long). omega (arith, is, long, fewer xs ys are.rising have.rising (λ n has. (have.exact n).1 (all n ((are.exact n).0 has))))))

-- a kind has one count
pub count-unique : (P : ℤ → Type 0) (i j : ℕ) → HasCount P i → HasCount P j → i ≡ j
count-unique P i j one two =
    let low = count-within P P i j (λ _ p. p) one two in
    let high = count-within P P j i (λ _ p. p) two one in
    omega (arith, low, high)

-- days that lie behind a first one are as many at most as lie between
span : (xs : List ℤ) → AllPairs (λ m n. m <ℤ n) xs → (a : ℤ) → ((n : ℤ) → Contains xs n → a ≤ℤ n) → (i : ℕ) → i < length xs → (a +ℤ pos i) ≤ℤ get_or xs i (pos 0)
span xs rising a low zero within = omega (arith, signed, low (get_or xs 0 (pos 0)) (Contains-get_or xs 0 (pos 0) within))
span xs rising a low (suc i) within =
    omega (arith, signed, span xs rising a low i (omega (arith, within)), rising i (suc i) (pos 0) (omega arith) within)

pub count-span : (P : ℤ → Type 0) (i : ℕ) (a b : ℤ) → a ≤ℤ b → ((n : ℤ) → P n → (a ≤ℤ n) × (n <ℤ b)) → HasCount P i → (a +ℤ pos i) ≤ℤ b
count-span P zero a b order within count = omega (arith, signed, order)
count-span P (suc i) a b order within count =
    ∥∥₁_elim count (int_le_prop (a +ℤ pos (suc i)) b)
    (λ (xs, are, is).
    let last : i < length xs = omega (arith, is) in
    let low = span xs are.rising a (λ n has. (within n ((are.exact n).0 has)).0) i last in
    let high = (within (get_or xs i (pos 0)) ((are.exact (get_or xs i (pos 0))).0 (Contains-get_or xs i (pos 0) last))).1 in
    omega (arith, signed, low, high))

-- ---- counts of other kinds

pub count-like : (P Q : ℤ → Type 0) (i : ℕ) → ((n : ℤ) → P n → Q n) → ((n : ℤ) → Q n → P n) → HasCount P i → HasCount Q i
count-like P Q i to from count =
    ∥∥₁_map count (λ (xs, are, is). (
      xs,
      record {
        rising = are.rising;
        exact = λ n. (λ has. to n ((are.exact n).0 has), λ q. (are.exact n).1 (from n q));
      },
      is,
    ))

pub count-empty : (P : ℤ → Type 0) → ((n : ℤ) → ¬ (P n)) → HasCount P 0
count-empty P none = ∣ (
  [],
  record {
    rising = λ i j d lt within. absurd (omega (arith, within));
    exact = λ n. (λ has. absurd (omega (arith, has.1)), λ p. absurd (none n p));
  },
  refl,
) ∣₁

-- each of some items stands in a relation to each later one, where one is put behind those before it
pub pairs-push : {A : Type 0} (R : A → A → Type 0) (xs : List A) (y : A) → AllPairs R xs → ((x : A) → Contains xs x → R x y) → AllPairs R (xs ++ (y ∷ []))
pairs-push R xs y pairs last i j d lt within =
    let long = length_push xs y in
    let first : i < length xs = omega arith in
    let at_i = get_or_append_left xs (y ∷ []) d i first in
    by_lt {P = R (get_or (xs ++ (y ∷ [])) i d) (get_or (xs ++ (y ∷ [])) j d)} j (length xs)
    (λ low. subst₂ R (sym at_i) (sym (get_or_append_left xs (y ∷ []) d j low)) (pairs i j d lt low))
    (λ high.
    let at : j ≡ length xs = omega arith in
    subst₂ R (sym at_i) (sym (get_or_push xs y d j (sym at))) (last (get_or xs i d) (Contains-get_or xs i d first)))

-- one day more, behind all others
pub count-push : (P Q : ℤ → Type 0) (i : ℕ) (n : ℤ) → ((m : ℤ) → P m → m <ℤ n) → Q n → ((m : ℤ) → P m → Q m) → ((m : ℤ) → Q m → P m ⊎ (n ≡ m)) →
    HasCount P i → HasCount Q (i + 1)
count-push P Q i n before here to from count =
    ∥∥₁_map count (λ (xs, are, is). (
      xs ++ (n ∷ []),
      record {
        rising = pairs-push (λ a b. a <ℤ b) xs n are.rising (λ m has. before m ((are.exact m).0 has));
        exact = λ m. (out xs are m, λ q. into xs are m (from m q));
      },
      length_push xs n ∙ ap (λ (k : ℕ). k + 1) is,
    )) where
      out : (xs : List ℤ) → AreDays P xs → (m : ℤ) → Contains (xs ++ (n ∷ [])) m → Q m
      out xs are m has = by_place (Contains-push_cases xs n m has) where
        by_place : Contains xs m ⊎ (n ≡ m) → Q m
        by_place (inl there) = to m ((are.exact m).0 there)
        by_place (inr same) = subst Q same here

      into : (xs : List ℤ) → AreDays P xs → (m : ℤ) → P m ⊎ (n ≡ m) → Contains (xs ++ (n ∷ [])) m
      into xs are m (inl p) = Contains-append_left xs (n ∷ []) m ((are.exact m).1 p)
      into xs are m (inr same) = subst (Contains (xs ++ (n ∷ []))) same (Contains-push xs n)
