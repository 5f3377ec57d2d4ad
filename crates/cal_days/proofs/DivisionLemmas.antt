-- What `omega` needs of division that rounds down: quotient and rest are atoms.
use Rattle.std.proofs.Common.{◌≡◌, ℕ, ◌+◌, ◌*◌, ◌<◌, arith, ℤ, pos}
use Rattle.std.specs.Int.{int_div_euclid, int_rem_euclid}
use Rattle.cal_days.specs.Division.{floor_div, floor_mod}
use Rattle.cal_days.proofs.Signed.{signed, int_rem_euclid-parts, unsigned_abs-parts}
use borrow.Author.Differences.{up, down}

-- z is n times the quotient and the rest
pub floor_parts : (z : ℤ) (n : ℕ) → 0 < n → (up (floor_div z n) * n + floor_mod z n + down z ≡ down (floor_div z n) * n + up z) × (floor_mod z n < n)
unfolding floor_div floor_mod
floor_parts z n h = omega (arith, int_rem_euclid-parts z n h, unsigned_abs-parts (int_rem_euclid z (pos n)))

pub floor_mod_parts : (z : ℤ) (n : ℕ) → 0 < n → (floor_mod z n < n) × (up (floor_div z n) * n + floor_mod z n + down z ≡ down (floor_div z n) * n + up z)
floor_mod_parts z n h = let parts = floor_parts z n h in (parts.1, parts.0)

-- what the code's calls say
pub floor_div-is : (z : ℤ) (n : ℕ) → int_div_euclid z (pos n) ≡ floor_div z n
unfolding floor_div
floor_div-is z n = omega (arith, signed)

pub floor_mod-is : (z : ℤ) (n : ℕ) → 0 < n → int_rem_euclid z (pos n) ≡ pos (floor_mod z n)
unfolding floor_mod
floor_mod-is z n h = omega (arith, signed, int_rem_euclid-parts z n h, unsigned_abs-parts (int_rem_euclid z (pos n)))

-- for `omega (arith, signed, floors)`
pub ruleset floors = (floor_parts, floor_mod_parts)
