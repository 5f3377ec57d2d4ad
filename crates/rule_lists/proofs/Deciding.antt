-- Statements that are decided: each holds, or it doesn't.
use Rattle.std.proofs.Common.{◌≡◌, ℕ, zero, suc, ◌+◌, ◌<◌, ◌≤◌, ◌⊎◌, inl, inr, Bool, true, false, refl, subst, arith, ℤ, pos, ◌+ℤ◌, ◌-ℤ◌, ◌≤ℤ◌, ◌<ℤ◌}
use Rattle.std.specs.Prelude.{IsTrue, unsigned_abs}
use Rattle.cal_days.proofs.Signed.{signed, by_lt}
use Rattle.std.proofs.lemmas.Int.{by_lt_z}

-- ---- statements of others

pub like : {A B : Type 0} → (A → B) → (B → A) → Dec A → Dec B
like to from (yes a) = yes (to a)
like to from (no never) = no (λ b. never (from b))

pub both : {A B : Type 0} → Dec A → Dec B → Dec (A × B)
both (yes a) (yes b) = yes (a, b)
both (yes a) (no never) = no (λ p. never p.1)
both (no never) d = no (λ p. never p.0)

-- where the second is decided only if the first holds
pub and_then : {A B : Type 0} → Dec A → (A → Dec B) → Dec (A × B)
and_then (yes a) next = both (yes a) (next a)
and_then (no never) next = no (λ p. never p.0)

-- three or four that stand in a row
pub three : {A B C : Type 0} → Dec A → Dec B → Dec C → Dec (A × B × C)
three a b c = like (λ (x, (y, z)). (x, y, z)) (λ (x, y, z). (x, (y, z))) (both a (both b c))

pub four : {A B C D : Type 0} → Dec A → Dec B → Dec C → Dec D → Dec (A × B × C × D)
four a b c d = like (λ (x, (y, z, w)). (x, y, z, w)) (λ (x, y, z, w). (x, (y, z, w))) (both a (three b c d))

pub either : {A B : Type 0} → Dec A → Dec B → Dec (A ⊎ B)
either (yes a) d = yes (inl a)
either (no never) (yes b) = yes (inr b)
either {A} {B} (no never) (no nor) = no none
  where
    none : A ⊎ B → ⊥
    none (inl a) = never a
    none (inr b) = nor b

pub denied : {A : Type 0} → Dec A → Dec (¬ A)
denied (yes a) = no (λ never. never a)
denied (no never) = yes never

pub implied : {A B : Type 0} → Dec A → Dec B → Dec (A → B)
implied (yes a) (yes b) = yes (λ _. b)
implied (yes a) (no never) = no (λ f. never (f a))
implied (no never) d = yes (λ a. absurd (never a))

pub one_of_two : {A : Type 0} → Dec A → A ⊎ ¬ A
one_of_two (yes a) = inl a
one_of_two (no never) = inr never

-- ---- tests and numbers

pub truth : (b : Bool) → Dec (IsTrue b)
truth true = yes refl
truth false = no (λ e. cc)

pub is_false : (b : Bool) → Dec (b ≡ false)
is_false true = no (λ e. cc)
is_false false = yes refl

pub is_less : (a b : ℕ) → Dec (a < b)
is_less a b = by_lt {P = Dec (a < b)} a b (λ lt. yes lt) (λ le. no (λ lt. omega (arith, le, lt)))

pub is_most : (a b : ℕ) → Dec (a ≤ b)
is_most a b = by_lt {P = Dec (a ≤ b)} b a (λ lt. no (λ le. omega (arith, le, lt))) (λ le. yes le)

pub is_same : (a b : ℕ) → Dec (a ≡ b)
is_same a b =
    by_lt {P = Dec (a ≡ b)} a b (λ lt. no (λ e. omega (arith, e, lt)))
    (λ le. by_lt {P = Dec (a ≡ b)} b a (λ lt. no (λ e. omega (arith, e, lt))) (λ ge. yes (omega (arith, le, ge))))

pub is_less_z : (a b : ℤ) → Dec (a <ℤ b)
is_less_z a b = by_lt_z {P = Dec (a <ℤ b)} a b (λ lt. yes lt) (λ le. no (λ lt. omega (arith, signed, le, lt)))

pub is_most_z : (a b : ℤ) → Dec (a ≤ℤ b)
is_most_z a b = by_lt_z {P = Dec (a ≤ℤ b)} b a (λ lt. no (λ le. omega (arith, signed, le, lt))) (λ le. yes (omega (arith, signed, le)))

pub is_same_z : (a b : ℤ) → Dec (a ≡ b)
is_same_z a b =
    by_lt_z {P = Dec (a ≡ b)} a b (λ lt. no (λ e. omega (arith, signed, e, lt)))
    (λ le. by_lt_z {P = Dec (a ≡ b)} b a (λ lt. no (λ e. omega (arith, signed, e, lt))) (λ ge. yes (omega (arith, signed, le, ge))))

-- ---- some value of many

-- a value of which there is only one
pub of_one : {A : Type 0} {Q R : A → Type 0} (x : A) → Q x → ((y : A) → Q y → y ≡ x) → Dec (R x) → Dec ((y : A) × Q y × R y)
of_one x is one (yes r) = yes (x, is, r)
of_one {A} {Q} {R} x is one (no never) = no (λ (y, q, r). never (subst R (one y q) r))

-- a number below a bound
pub some_below : {P : ℕ → Type 0} → ((i : ℕ) → Dec (P i)) → (most : ℕ) → Dec ((i : ℕ) × (i < most) × P i)
some_below decide zero = no (λ (i, lt, p). omega (arith, lt))
some_below {P} decide (suc most) = by_last (decide most) (some_below decide most)
  where
    by_last : Dec (P most) → Dec ((i : ℕ) × (i < most) × P i) → Dec ((i : ℕ) × (i < suc most) × P i)
    by_last (yes p) others = yes (most, omega arith, p)
    by_last (no never) (yes (i, lt, p)) = yes (i, omega (arith, lt), p)
    by_last (no never) (no none) =
        no (λ (i, lt, p). by_lt {P = ⊥} i most (λ less. none (i, less, p))
        (λ le. let same : i ≡ most = omega (arith, lt, le) in never (subst P same p)))

-- a number, where none past a bound is one
pub some_number : {P : ℕ → Type 0} → ((i : ℕ) → Dec (P i)) → (most : ℕ) → ((i : ℕ) → P i → i < most) → Dec ((i : ℕ) × P i)
some_number decide most within =
    like (λ (i, lt, p). (i, p)) (λ (i, p). (i, within i p, p)) (some_below decide most)

-- an integer of so many from one on
pub some_from : {P : ℤ → Type 0} → ((n : ℤ) → Dec (P n)) → (low : ℤ) (count : ℕ) →
    ((n : ℤ) → P n → (low ≤ℤ n) × (n <ℤ (low +ℤ pos count))) → Dec ((n : ℤ) × P n)
some_from {P} decide low count within =
    like (λ (i, p). (low +ℤ pos i, p)) offset
    (some_number {P = λ i. P (low +ℤ pos i)} (λ i. decide (low +ℤ pos i)) count
    (λ i p. let h = within (low +ℤ pos i) p in omega (arith, signed, h)))
  where
    offset : (n : ℤ) × P n → (i : ℕ) × P (low +ℤ pos i)
    offset (n, p) =
        let h = within n p in
        let same : n ≡ low +ℤ pos (unsigned_abs (n -ℤ low)) = omega (arith, signed, h) in
        (unsigned_abs (n -ℤ low), subst P same p)

-- an integer between two
pub some_between : {P : ℤ → Type 0} → ((n : ℤ) → Dec (P n)) → (low high : ℤ) → ((n : ℤ) → P n → (low ≤ℤ n) × (n ≤ℤ high)) →
    Dec ((n : ℤ) × P n)
some_between {P} decide low high within =
    by_lt_z {P = Dec ((n : ℤ) × P n)} high low
    (λ lt. no (λ (n, p). let h = within n p in omega (arith, signed, lt, h)))
    (λ le. some_from decide low (unsigned_abs (high -ℤ low) + 1) (λ n p. let h = within n p in omega (arith, signed, le, h)))
