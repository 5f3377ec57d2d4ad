-- Numbers that pass a test: how many there are.
use Rattle.std.proofs.Common.{◌≡◌, ◌∙◌, ℕ, zero, suc, ◌+◌, ◌<◌, ◌≤◌, ◌&&◌, Bool, true, false, cond, nat_le, refl, sym, ap, ap₂, add-one, arith}
use Rattle.std.proofs.lemmas.Bool.Decides.{nat_tests}
use Rattle.cal_days.proofs.Signed.{by_lt}
use Rattle.recurrence_sets.specs.Numbers.{count_below}

pub count-zero : (test : ℕ → Bool) → count_below test 0 ≡ 0
unfolding count_below
count-zero test = refl

pub count-suc : (test : ℕ → Bool) (n : ℕ) → count_below test (suc n) ≡ count_below test n + cond (test n) 1 0
unfolding count_below
count-suc test n = refl

pub count-next : (test : ℕ → Bool) (n : ℕ) → count_below test (n + 1) ≡ count_below test n + cond (test n) 1 0
count-next test n = ap (count_below test) (add-one n) ∙ count-suc test n

-- where two tests agree, they pass as many numbers
pub count-same : (f g : ℕ → Bool) (n : ℕ) → ((i : ℕ) → i < n → f i ≡ g i) → count_below f n ≡ count_below g n
count-same f g zero same = count-zero f ∙ sym (count-zero g)
count-same f g (suc n) same =
    count-suc f n
    ∙ ap₂ (λ (a : ℕ) (b : Bool). a + cond b 1 0) (count-same f g n (λ i lt. same i (omega arith))) (same n (omega arith))
    ∙ sym (count-suc g n)

-- where none passes, the number stays
pub count-none : (f : ℕ → Bool) (m n : ℕ) → m ≤ n → ((i : ℕ) → m ≤ i → i < n → f i ≡ false) → count_below f n ≡ count_below f m
count-none f m zero le none = let same : 0 ≡ m = omega (arith, le) in ap (count_below f) same
count-none f m (suc n) le none =
    by_lt {P = count_below f (suc n) ≡ count_below f m} m (suc n)
    (λ lt.
    let low : m ≤ n = omega (arith, lt) in
    let before = count-none f m n low (λ i from within. none i from (omega (arith, within))) in
    let last = ap (λ (b : Bool). cond {A = ℕ} b 1 0) (none n low (omega arith)) in
    omega (arith, count-suc f n, last, before))
    (λ ge. let same : suc n ≡ m = omega (arith, le, ge) in ap (count_below f) same)

bit-few : (b : Bool) → cond b 1 0 ≤ 1
bit-few true = omega arith
bit-few false = omega arith

pub count-few : (f : ℕ → Bool) (n : ℕ) → count_below f n ≤ n
count-few f zero = omega (arith, count-zero f)
count-few f (suc n) = omega (arith, count-suc f n, count-few f n, bit-few (f n))

-- more numbers have no fewer that pass
pub count-rises : (f : ℕ → Bool) (m n : ℕ) → m ≤ n → count_below f m ≤ count_below f n
count-rises f m zero le = let same : m ≡ 0 = omega (arith, le) in omega (arith, ap (count_below f) same)
count-rises f m (suc n) le =
    by_lt {P = count_below f m ≤ count_below f (suc n)} m (suc n)
    (λ lt. omega (arith, count-suc f n, count-rises f m n (omega (arith, lt))))
    (λ ge. let same : m ≡ suc n = omega (arith, le, ge) in omega (arith, ap (count_below f) same))

-- the numbers below m, and n more
pub count-split : (f : ℕ → Bool) (m n : ℕ) → count_below f (m + n) ≡ count_below f m + count_below (λ i. f (m + i)) n
count-split f m zero =
    let same : m + 0 ≡ m = omega arith in
    ap (count_below f) same ∙ omega (arith, count-zero (λ i. f (m + i)))
count-split f m (suc n) =
    let turned : m + suc n ≡ suc (m + n) = omega arith in
    let next = ap (count_below f) turned ∙ count-suc f (m + n) in
    omega (arith, next, count-split f m n, count-suc (λ i. f (m + i)) n)

-- a test of the numbers from one on
abbrev pub from_on : (ℕ → Bool) → ℕ → ℕ → Bool
from_on f a i = f i && nat_le a i

pub from_on-below : (f : ℕ → Bool) (a i : ℕ) → i < a → from_on f a i ≡ false
from_on-below f a i lt = let low : nat_le a i ≡ false = grind (arith, nat_tests, lt) in ap (λ (b : Bool). f i && b) low ∙ none (f i) where
  none : (b : Bool) → (b && false) ≡ false
  none true = refl
  none false = refl

pub from_on-above : (f : ℕ → Bool) (a i : ℕ) → a ≤ i → from_on f a i ≡ f i
from_on-above f a i le = let high : nat_le a i ≡ true = grind (arith, nat_tests, le) in ap (λ (b : Bool). f i && b) high ∙ same (f i) where
  same : (b : Bool) → (b && true) ≡ b
  same true = refl
  same false = refl

-- how many pass from a number on
pub count-from : (f : ℕ → Bool) (a n : ℕ) → a ≤ n → count_below (from_on f a) n + count_below f a ≡ count_below f n
count-from f a zero le =
    let same : a ≡ 0 = omega (arith, le) in
    omega (arith, count-zero (from_on f a), ap (count_below f) same, count-zero f)
count-from f a (suc n) le =
    by_lt {P = count_below (from_on f a) (suc n) + count_below f a ≡ count_below f (suc n)} a (suc n)
    (λ lt.
    let low : a ≤ n = omega (arith, lt) in
    let last = ap (λ (b : Bool). cond {A = ℕ} b 1 0) (from_on-above f a n low) in
    omega (arith, count-suc (from_on f a) n, count-suc f n, count-from f a n low, last))
    (λ ge.
    let same : suc n ≡ a = omega (arith, le, ge) in
    let none = count-none (from_on f a) 0 (suc n) (omega arith) (λ i _ lt. from_on-below f a i (omega (arith, lt, ge))) in
    omega (arith, none, count-zero (from_on f a), ap (count_below f) same))
