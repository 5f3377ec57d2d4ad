-- Year numbers as arguments of calls: what arrives is the year itself.
use Rattle.std.proofs.Common.{◌≡◌, ◌≤◌, ℕ, arith, ap, ℤ, pos, ◌+ℤ◌, ◌-ℤ◌, to_z, of_z, w32}
use Rattle.cal_days.specs.Day.{IsBetween}
use Rattle.cal_days.proofs.Signed.{signed}

-- the years that a table's test asks for
abbrev pub IsAsked : ℤ → Type 0
IsAsked y = IsBetween (pos 1) (pos 10001) y

pub year_same : {X : Type 0} (f : ℤ → X) (y : ℤ) → IsAsked y → f (to_z w32 (of_z w32 y)) ≡ f y
year_same f y asked = let same : to_z w32 (of_z w32 y) ≡ y = omega (arith, signed) in ap f same

pub year_after : {X : Type 0} (f : ℤ → X) (y : ℤ) (k : ℕ) → IsAsked y → k ≤ 2
    → f (to_z w32 (of_z w32 (to_z w32 (of_z w32 y) +ℤ pos k))) ≡ f (y +ℤ pos k)
year_after f y k asked small =
    let same : to_z w32 (of_z w32 (to_z w32 (of_z w32 y) +ℤ pos k)) ≡ y +ℤ pos k = omega (arith, signed) in ap f same

pub year_before : {X : Type 0} (f : ℤ → X) (y : ℤ) (k : ℕ) → IsAsked y → k ≤ 2
    → f (to_z w32 (of_z w32 (to_z w32 (of_z w32 y) -ℤ pos k))) ≡ f (y -ℤ pos k)
year_before f y k asked small =
    let same : to_z w32 (of_z w32 (to_z w32 (of_z w32 y) -ℤ pos k)) ≡ y -ℤ pos k = omega (arith, signed) in ap f same
