-- Signed numbers for `omega`, which reads z as `up z - down z`, and induction over them.
use Rattle.std.proofs.Common.{◌≡◌, ℕ, zero, suc, ◌+◌, ◌-◌, ◌*◌, ◌%◌, ◌^◌, ◌<◌, ◌≤◌, ◌⊎◌, inl, inr, ⊎_elim, Bool, true, false, refl, sym, ◌∙◌, subst, arith, ℤ, pos, negsuc, ◌+ℤ◌, ◌-ℤ◌, to_z, of_z, FitsSigned, int_rem, unsigned_abs}
use Rattle.std.proofs.lemmas.Int.{by_lt_z}
use Rattle.std.proofs.lemmas.Bool.{cases_lt}
use Rattle.std.specs.Int.{Width, int_div_euclid, int_rem_euclid}
use Rattle.cal_days.specs.Sums.{years_up}
use borrow.Author.Differences.{up, down, fits_out, same_out, Apart-out, lt_T, le_T, lt_not, le_not, lt-true, lt-false, le-true, le-false, true-lt, false-lt, true-le, false-le, not_negative_out, lt_out, le_out, fits_in, same_in, lt_in, le_in, below_in, at_most_in, not_negative_in, sum_is_lem, neg_is, product_is, quot_is, back_is, small_is, abs_is}
use mir.Val.{hbits}
use native.Mathlib.Nat.{zero-mod}

-- a number between the type's ends fits it
pub fits_between : (w : Width) (z : ℤ) → (up z < down z + 2 ^ hbits w) × (down z ≤ up z + 2 ^ hbits w) → FitsSigned w z
fits_between w z h = fits_in w z (omega arith)

-- and comes back from its bits as it was
pub back_between : (w : Width) (z : ℤ) → up z < down z + 2 ^ hbits w → down z ≤ up z + 2 ^ hbits w → (up (to_z w (of_z w z)) ≡ up z) × (down (to_z w (of_z w z)) ≡ down z)
back_between w z h k = back_is w z (omega arith)

pub int_rem-parts : (a : ℤ) (k : ℕ) → (up (int_rem a (pos k)) ≡ up a % k) × (down (int_rem a (pos k)) ≡ down a % k)
int_rem-parts (pos a) k = (refl, sym (zero-mod k))
int_rem-parts (negsuc a) k = ((neg_is (pos (suc a % k))).0 ∙ sym (zero-mod k), (neg_is (pos (suc a % k))).1)

pub unsigned_abs-parts : (z : ℤ) → unsigned_abs z ≡ (up z - down z) + (down z - up z)
unsigned_abs-parts (pos n) = omega arith
unsigned_abs-parts (negsuc n) = omega arith

-- the quotient q that rounds down has k * q ≤ a < k * q + k
pub int_div_euclid-parts : (a : ℤ) (k : ℕ) → 0 < k → (up (int_div_euclid a (pos k)) * k + down a ≤ down (int_div_euclid a (pos k)) * k + up a) × (down (int_div_euclid a (pos k)) * k + up a < up (int_div_euclid a (pos k)) * k + down a + k)
int_div_euclid-parts (pos a) k h = omega arith
int_div_euclid-parts (negsuc a) k h = omega arith

-- and the remainder is what that leaves
pub int_rem_euclid-parts : (a : ℤ) (k : ℕ) → 0 < k → (up (int_rem_euclid a (pos k)) + up (int_div_euclid a (pos k)) * k + down a ≡ down (int_div_euclid a (pos k)) * k + up a) × (down (int_rem_euclid a (pos k)) ≡ 0) × (up (int_rem_euclid a (pos k)) < k)
int_rem_euclid-parts (pos a) k h = omega arith
int_rem_euclid-parts (negsuc a) k h = omega arith

-- one of the two parts is 0
pub one_part : (z : ℤ) → (up z ≡ 0) ⊎ (down z ≡ 0)
one_part (pos n) = inr refl
one_part (negsuc n) = inl refl

-- said of the difference of the parts, so that `omega` need not know that one of them is 0
pub years_up-parts : (z : ℤ) → years_up z ≡ up z - down z
years_up-parts (pos n) = omega arith
years_up-parts (negsuc n) = omega arith

-- for `omega (arith, signed)`
pub ruleset signed = (fits_out, same_out, Apart-out, lt_out, le_out, lt_T, le_T, lt_not, le_not, lt-true, lt-false, le-true, le-false, true-lt, false-lt, true-le, false-le, not_negative_out, fits_between, same_in, lt_in, le_in, below_in, at_most_in, not_negative_in, sum_is_lem, neg_is, product_is, quot_is, int_rem-parts, unsigned_abs-parts, int_div_euclid-parts, int_rem_euclid-parts, back_between, years_up-parts)

-- the same, where the code casts between signed and unsigned types
pub ruleset signed_casts = (signed, small_is, abs_is)

pub by_lt : {P : Type 0} (m n : ℕ) → (m < n → P) → (n ≤ m → P) → P
by_lt m n below above = ⊎_elim below above (cases_lt m n)

pub by_bool : {P : Type 0} (b : Bool) → (b ≡ true → P) → (b ≡ false → P) → P
by_bool true on off = on refl
by_bool false on off = off refl

int_up : (P : ℤ → Type 0) (a : ℤ) → P a → ((y : ℤ) → P y → P (y +ℤ pos 1)) → (n : ℕ) (y : ℤ) → y ≡ a +ℤ pos n → P y
int_up P a base step zero y e = let same : a ≡ y = omega (arith, signed) in subst P same base
int_up P a base step (suc n) y e =
    let same : a +ℤ pos n +ℤ pos 1 ≡ y = omega (arith, signed) in
    subst P same (step (a +ℤ pos n) (int_up P a base step n (a +ℤ pos n) refl))

int_down : (P : ℤ → Type 0) (a : ℤ) → P a → ((y : ℤ) → P (y +ℤ pos 1) → P y) → (n : ℕ) (y : ℤ) → y +ℤ pos n ≡ a → P y
int_down P a base step zero y e = let same : a ≡ y = omega (arith, signed) in subst P same base
int_down P a base step (suc n) y e = step y (int_down P a base step n (y +ℤ pos 1) (omega (arith, signed)))

-- induction over the years from one of them, up and down
pub by_years : (P : ℤ → Type 0) (a : ℤ) → P a → ((y : ℤ) → P y → P (y +ℤ pos 1)) → ((y : ℤ) → P (y +ℤ pos 1) → P y) → (y : ℤ) → P y
by_years P a base step back y =
    by_lt_z {P = P y} y a
    (λ lt. int_down P a base back (years_up (a -ℤ y)) y (omega (arith, signed)))
    (λ le. int_up P a base step (years_up (y -ℤ a)) y (omega (arith, signed)))
