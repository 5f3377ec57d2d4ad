-- The day of the Persian year by the rule of 33 years, with the year itself.
use Rattle.std.proofs.Common.{◌≡◌, ℕ, ◌+◌, ◌*◌, ◌/◌, ◌%◌, arith, ℤ, pos, ◌+ℤ◌, ◌-ℤ◌, ◌*ℤ◌}
use Rattle.cal_days.specs.Persian.{persian_start}
use Rattle.cal_days.proofs.DivisionLemmas.{floor_parts}
use Rattle.cal_days.proofs.Signed.{signed}

-- the linear formula, counted from 1023000 years before, leaves 33 times the day of the year and at most 32 more
pub persian_day-counted : (rd y : ℤ) (n : ℕ) → pos n ≡ rd +ℤ pos 373416105 → y ≡ pos ((33 * n + 3) / 12053) -ℤ pos 1022999 → persian_start y +ℤ pos ((33 * n + 3) % 12053 / 33) ≡ rd
unfolding persian_start
persian_day-counted rd y n e f = omega (arith, signed, floor_parts (pos 8 *ℤ y +ℤ pos 21) 33 (omega arith))
