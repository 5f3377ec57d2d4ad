-- A late year starts near the mean one, and has twelve months.
use Rattle.std.proofs.Common.{◌<◌, Bool, true, false, if◌then◌else◌, arith, ℤ, pos, ◌+ℤ◌, ◌-ℤ◌}
use Rattle.std.specs.Ordering.{int_eq}
use Rattle.cal_days.proofs.Signed.{signed}
use Rattle.cal_hijri.specs.HijriMonths.{IsNearMean}
use Rattle.lunar_tests.specs.LateStarts.{late_long, late_start}

pub late-near : (y : ℤ) → IsNearMean y (late_start y)
late-near y = (omega (arith, signed), omega (arith, signed))

few_by : (b : Bool) → (if b then 3413 else 1365) < 4096
few_by true = omega arith
few_by false = omega arith

pub late-few : (y : ℤ) → late_long y < 4096
late-few y = few_by (int_eq (late_start (y +ℤ pos 1) -ℤ late_start y) (pos 355))
