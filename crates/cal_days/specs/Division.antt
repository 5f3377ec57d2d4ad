-- Division that rounds down, as year rules write it (Reingold and Dershowitz, Calendrical Calculations).
use Rattle.std.specs.Prelude.{ℕ, ℤ, pos, unsigned_abs}
use Rattle.std.specs.Int.{int_div_euclid, int_rem_euclid}

-- the quotient, rounded down
unfoldable pub floor_div : ℤ → ℕ → ℤ
floor_div z n = int_div_euclid z (pos n)

-- what is left, from 0 to n - 1
unfoldable pub floor_mod : ℤ → ℕ → ℕ
floor_mod z n = unsigned_abs (int_rem_euclid z (pos n))
