-- Each year of type I starts where the one before ends, and near its mean start.
use Rattle.std.proofs.Common.{◌≡◌, ℕ, ◌+◌, cond, if◌then◌else◌, refl, arith, ℤ, pos, ◌+ℤ◌, ◌*ℤ◌}
use Rattle.std.proofs.lemmas.Bool.Decides.{nat_tests}
use Rattle.cal_days.specs.Division.{floor_div}
use Rattle.cal_days.specs.Islamic.{IsIslamicEpoch}
use Rattle.cal_days.proofs.DivisionLemmas.{floor_parts}
use Rattle.cal_days.proofs.IslamicLemmas.{mean_start-bounds}
use Rattle.cal_days.proofs.Signed.{signed}
use Rattle.cal_hijri.specs.HijriMonths.{IsNearMean}
use Rattle.cal_hijri.specs.TypeIYears.{type_i_leap, type_i_start}

leap_day : ℤ → ℕ
leap_day y = cond (type_i_leap y) 1 0

days-parts : (y : ℤ) → (if type_i_leap y then 355 else 354) ≡ 354 + leap_day y
unfolding leap_day
days-parts y = grind arith

-- the quotient grows by one past each leap year
quotient_next : (y z : ℤ) → z ≡ y +ℤ pos 1 → floor_div (pos 11 *ℤ z +ℤ pos 4) 30 ≡ floor_div (pos 11 *ℤ y +ℤ pos 4) 30 +ℤ pos (leap_day y)
unfolding leap_day
quotient_next y z e =
    let same : pos 11 *ℤ z +ℤ pos 4 ≡ pos 11 *ℤ y +ℤ pos 15 = omega (arith, signed) in
    rw same (grind (arith, signed, nat_tests, floor_parts (pos 11 *ℤ y +ℤ pos 15) 30, floor_parts (pos 11 *ℤ y +ℤ pos 4) 30))

-- the next year starts where a year ends
pub type_i_start-next : (epoch y : ℤ) → type_i_start epoch (y +ℤ pos 1) ≡ type_i_start epoch y +ℤ pos (if type_i_leap y then 355 else 354)
unfolding type_i_start
type_i_start-next epoch y = omega (arith, signed, days-parts y, quotient_next y (y +ℤ pos 1) refl)

-- a year starts near its mean start
pub type_i_start-near : (epoch y : ℤ) → IsIslamicEpoch epoch → IsNearMean y (type_i_start epoch y)
unfolding type_i_start
type_i_start-near epoch y h =
    let parts = floor_parts (pos 11 *ℤ y +ℤ pos 4) 30 (omega arith) in
    let mean = mean_start-bounds y in
    (omega (arith, signed, h, parts, mean), omega (arith, signed, h, parts, mean))
