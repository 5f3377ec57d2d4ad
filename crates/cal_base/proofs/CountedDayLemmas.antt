-- A day that is counted from the first day of its year, which is handed over in 64 bits.
use Rattle.std.proofs.Common.{◌≡◌, ◌+◌, ◌-◌, ◌≤◌, ◌-ℤ◌, ◌+ℤ◌, ℕ, ℤ, pos, neg_ℤ, to_z, of_z, w64, arith}
use Rattle.cal_days.proofs.Signed.{signed}
use Rattle.cal_days.specs.Day.{IsBetween}

-- the year's first day as it is handed over
pub handed : (x : ℤ) → IsBetween (neg_ℤ (pos 4000000000)) (pos 4000000000) x → to_z w64 (of_z w64 x) ≡ x
handed x h = omega (arith, signed, h)

-- what is counted is the day number
pub sum : (first number start : ℤ) (before day : ℕ) → start ≡ first → 1 ≤ day → number ≡ first +ℤ pos before +ℤ pos day -ℤ pos 1 → number ≡ start +ℤ pos (before + (day - 1))
sum first number start before day e one e2 = omega (arith, signed)
