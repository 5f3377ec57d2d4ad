-- The Coptic rule: years join by the closed formula, and the formula is nearly linear.
use Rattle.std.proofs.Common.{◌≡◌, ℕ, ◌+◌, ◌*◌, ◌≤◌, ◌==◌, if◌then◌else◌, arith, ℤ, pos, neg_ℤ, ◌+ℤ◌, ◌-ℤ◌, ◌<ℤ◌, ◌≤ℤ◌}
use Rattle.std.proofs.lemmas.Bool.Decides.{nat_tests}
use Rattle.cal_days.specs.Day.{IsBetween, IsValidDay}
use Rattle.cal_days.specs.Division.{floor_div, floor_mod}
use Rattle.cal_days.specs.Coptic.{coptic_days, coptic_start, coptic_year_length}
use Rattle.cal_days.proofs.Signed.{signed}
use Rattle.cal_days.proofs.DivisionLemmas.{floor_parts}
use borrow.Author.Differences.{up, down}

-- the quotient rises after each leap year
fourths-next : (y : ℤ) → floor_div (y +ℤ pos 1) 4 ≡ floor_div y 4 +ℤ pos (if floor_mod y 4 == 3 then 1 else 0)
fourths-next y = grind (arith, signed, nat_tests, floor_parts y 4, floor_parts (y +ℤ pos 1) 4)

pub coptic_year_length-parts : (y : ℤ) → coptic_year_length y ≡ 365 + (if floor_mod y 4 == 3 then 1 else 0)
coptic_year_length-parts y = grind arith

-- the next year starts where a year ends
pub coptic_start-next : (y : ℤ) → coptic_start (y +ℤ pos 1) ≡ coptic_start y +ℤ pos (coptic_year_length y)
unfolding coptic_start
coptic_start-next y =
    let same : y +ℤ pos 1 -ℤ pos 1 ≡ y = omega (arith, signed) in
    rw same (omega (arith, signed, coptic_year_length-parts y, fourths-next y))

-- 4 times a year's first day is 1461 times the year, and between 412957 and 412960 more
pub coptic_start-bounds : (y : ℤ) → (up (coptic_start y) * 4 + down y * 1461 ≤ down (coptic_start y) * 4 + up y * 1461 + 412960) × (down (coptic_start y) * 4 + up y * 1461 + 412957 ≤ up (coptic_start y) * 4 + down y * 1461)
unfolding coptic_start
coptic_start-bounds y = omega (arith, signed, floor_parts y 4)

-- a year's first day, by the days of the years from 1001000 years before year 1
pub coptic_days-counted : (y : ℤ) (n : ℕ) → pos n ≡ y +ℤ pos 1000999 → pos (coptic_days n) ≡ coptic_start y +ℤ pos 365511645
unfolding coptic_start
coptic_days-counted y n e = omega (arith, signed, floor_parts y 4)

-- a valid day lies in a year from -1000263 to 999695
pub coptic_year_of_valid_day : (rd y : ℤ) → IsValidDay rd → coptic_start y ≤ℤ rd → rd <ℤ coptic_start (y +ℤ pos 1) → IsBetween (neg_ℤ (pos 1000263)) (pos 999695) y
coptic_year_of_valid_day rd y valid first last =
    (omega (arith, signed, coptic_start-bounds (y +ℤ pos 1)), omega (arith, signed, coptic_start-bounds y))
