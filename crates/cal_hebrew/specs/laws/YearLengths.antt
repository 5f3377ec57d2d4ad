-- The length of a year is one of six, which its place among them gives back.
use Rattle.std.proofs.Common.{◌≡◌, inl, inr, ℕ, Bool, true, false, refl, sym, subst, arith, ℤ}
use Rattle.std.proofs.lemmas.Bool.Decides.{nat_tests}
use Rattle.cal_days.specs.Hebrew.{hebrew_leap, hebrew_year_length}
use Rattle.cal_days.specs.Hebrew as days
use Rattle.cal_days.proofs.HebrewLemmas.{hebrew_year_length-is}
use Rattle.cal_days.proofs.Signed.{by_lt}
use Rattle.date_bytes.specs.HebrewBytes.{IsHebrewLength, class_of, length_of}

abbrev IsKnown : ℕ → Type 0
IsKnown n = length_of (class_of n) ≡ n

known-by : (leap : Bool) (n : ℕ) → days.IsHebrewLength leap n → IsKnown n
known-by false n (inl x) = subst IsKnown (sym x) refl
known-by false n (inr (inl x)) = subst IsKnown (sym x) refl
known-by false n (inr (inr x)) = subst IsKnown (sym x) refl
known-by true n (inl x) = subst IsKnown (sym x) refl
known-by true n (inr (inl x)) = subst IsKnown (sym x) refl
known-by true n (inr (inr x)) = subst IsKnown (sym x) refl

pub length-known : (y : ℤ) → length_of (class_of (hebrew_year_length y)) ≡ hebrew_year_length y
length-known y = known-by (hebrew_leap y) (hebrew_year_length y) (hebrew_year_length-is y)

-- what a place gives is a length
pub length_of-known : (b : ℕ) → length_of (class_of (length_of b)) ≡ length_of b
length_of-known b = grind (arith, nat_tests)

-- the length of a year of its own number is known
pub given-known : (y : ℤ) (n : ℕ) → n ≡ hebrew_year_length y → length_of (class_of n) ≡ n
given-known y n same = subst (λ (m : ℕ). length_of (class_of m) ≡ m) (sym same) (length-known y)
