-- The Julian rule: years join by the closed formula, and the formula is nearly linear.
use Rattle.std.proofs.Common.{◌≡◌, ℕ, ◌+◌, ◌*◌, ◌<◌, ◌≤◌, ap, arith, ℤ, pos, neg_ℤ, ◌+ℤ◌, ◌-ℤ◌, ◌*ℤ◌, ◌<ℤ◌, ◌≤ℤ◌}
use Rattle.cal_days.specs.Day.{IsBetween, IsValidDay}
use Rattle.cal_days.specs.Division.{floor_div}
use Rattle.cal_days.specs.Julian.{julian_year_length, julian_start, julian_first_of_march}
use Rattle.cal_days.specs.March.{julian_march_days}
use Rattle.cal_days.proofs.Signed.{signed}
use Rattle.cal_days.proofs.DivisionLemmas.{floor_parts}
use Rattle.cal_days.proofs.GregorianLemmas.{one_where, floor_div-next_4}
use borrow.Author.Differences.{up, down}

-- a year has 365 days and, where 4 divides it, one more
pub julian_year_length-parts : (y : ℤ) → julian_year_length y ≡ 365 + one_where y 4
julian_year_length-parts y = grind arith

-- the next year starts where a year ends
pub julian_start-next : (y : ℤ) → julian_start (y +ℤ pos 1) ≡ julian_start y +ℤ pos (julian_year_length y)
unfolding julian_start
julian_start-next y =
    let same : y +ℤ pos 1 -ℤ pos 1 ≡ y = omega (arith, signed) in
    rw same (omega (arith, signed, julian_year_length-parts y, floor_div-next_4 (y -ℤ pos 1) y (omega (arith, signed))))

-- 4 times a year's first day is 1461 times the years before it, less 4 to 7
pub julian_start-bounds : (y : ℤ) → (up (julian_start y) * 4 + down y * 1461 + 1461 + 4 ≤ down (julian_start y) * 4 + up y * 1461) × (down (julian_start y) * 4 + up y * 1461 ≤ up (julian_start y) * 4 + down y * 1461 + 1461 + 7)
unfolding julian_start
julian_start-bounds y = omega (arith, signed, floor_parts (y -ℤ pos 1) 4)

-- a valid day lies in a year from -999999 to 999999
pub julian_year_of_valid_day : (rd y : ℤ) → IsValidDay rd → julian_start y ≤ℤ rd → rd <ℤ julian_start (y +ℤ pos 1) → IsBetween (neg_ℤ (pos 999999)) (pos 999999) y
julian_year_of_valid_day rd y valid first last =
    (omega (arith, signed, julian_start-bounds (y +ℤ pos 1)), omega (arith, signed, julian_start-bounds y))

-- a year's March 1, counted in years that begin there from so many cycles of 4 years before year 0
pub julian_march_days-counted : (y : ℤ) (n k : ℕ) → pos n ≡ y +ℤ pos (4 * k) → pos (julian_march_days n) ≡ julian_first_of_march y +ℤ pos 307 +ℤ pos (1461 * k)
unfolding julian_start
julian_march_days-counted y n k e =
    let same : y +ℤ pos 1 -ℤ pos 1 ≡ y = omega (arith, signed) in
    rw same (omega (arith, signed, floor_parts y 4))

-- and by its formula
pub julian_first_of_march-formula : (y : ℤ) → julian_first_of_march y ≡ pos 365 *ℤ y +ℤ floor_div y 4 -ℤ pos 307
unfolding julian_start
julian_first_of_march-formula y =
    let same : y +ℤ pos 1 -ℤ pos 1 ≡ y = omega (arith, signed) in
    rw same (omega (arith, signed))

-- January and February go before it
julian_first_of_march-within : (y : ℤ) → (julian_start y ≤ℤ julian_first_of_march y) × (julian_first_of_march y +ℤ pos 306 ≡ julian_start (y +ℤ pos 1))
julian_first_of_march-within y = (omega (arith, signed, julian_start-next y, julian_year_length-parts y), omega (arith, signed))

-- the year of a valid day, by its place after a March 1: from 306 days on it is the next one
pub julian_year_of_march_day : (rd y : ℤ) (p : ℕ) → IsValidDay rd → julian_first_of_march y +ℤ pos p ≡ rd → p < 306 → (julian_start y ≤ℤ rd) × (rd <ℤ julian_start (y +ℤ pos 1)) × IsBetween (neg_ℤ (pos 999999)) (pos 999999) y
julian_year_of_march_day rd y p valid day early =
    let within = julian_first_of_march-within y in
    let first : julian_start y ≤ℤ rd = omega (arith, signed, within) in
    let last : rd <ℤ julian_start (y +ℤ pos 1) = omega (arith, signed, within) in
    (first, last, julian_year_of_valid_day rd y valid first last)

pub julian_year_after_march_day : (rd y z : ℤ) (p : ℕ) → z ≡ y +ℤ pos 1 → IsValidDay rd → julian_first_of_march y +ℤ pos p ≡ rd → rd <ℤ julian_first_of_march z → 306 ≤ p → (julian_start z ≤ℤ rd) × (rd <ℤ julian_start (z +ℤ pos 1)) × IsBetween (neg_ℤ (pos 999999)) (pos 999999) z
julian_year_after_march_day rd y z p next valid day within late =
    let same = ap julian_start next in
    let here = julian_first_of_march-within y in let after = julian_first_of_march-within z in
    let first : julian_start z ≤ℤ rd = omega (arith, signed, here, same) in
    let last : rd <ℤ julian_start (z +ℤ pos 1) = omega (arith, signed, after) in
    (first, last, julian_year_of_valid_day rd z valid first last)
