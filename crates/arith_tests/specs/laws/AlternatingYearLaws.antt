-- The years of the small calendar are stored as they are.
use Rattle.std.proofs.Common.{◌≡◌, ℤ, pos, ◌+ℤ◌, arith}
use Rattle.cal_days.proofs.Signed.{signed}

pub stored-year : (y : ℤ) → y ≡ y +ℤ pos 0
stored-year y = omega (arith, signed)
