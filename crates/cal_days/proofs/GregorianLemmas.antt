-- The Gregorian rule: years join by the closed formula, and the formula is nearly linear.
use Rattle.std.proofs.Common.{◌≡◌, ℕ, ◌+◌, ◌*◌, ◌<◌, ◌≤◌, cond, nat_eq, ap, arith, ℤ, pos, neg_ℤ, ◌+ℤ◌, ◌-ℤ◌, ◌*ℤ◌, ◌<ℤ◌, ◌≤ℤ◌}
use Rattle.std.proofs.lemmas.Bool.Decides.{nat_tests}
use Rattle.cal_days.specs.Day.{IsBetween, IsValidDay}
use Rattle.cal_days.specs.Division.{floor_div, floor_mod}
use Rattle.cal_days.specs.Gregorian.{gregorian_leap, gregorian_year_length, leap_days_through, gregorian_start, first_of_march}
use Rattle.cal_days.specs.March.{march_days}
use Rattle.cal_days.proofs.Signed.{signed}
use Rattle.cal_days.proofs.DivisionLemmas.{floor_parts}
use borrow.Author.Differences.{up, down}

-- 1 in each year that n divides, and 0 in the others
abbrev pub one_where : ℤ → ℕ → ℕ
one_where y n = cond (nat_eq (floor_mod y n) 0) 1 0

-- the next year's quotient is one more where the number divides that year
pub floor_div-next_4 : (y z : ℤ) → z ≡ y +ℤ pos 1 → floor_div z 4 ≡ floor_div y 4 +ℤ pos (one_where z 4)
floor_div-next_4 y z e = grind (arith, signed, nat_tests, floor_parts y 4, floor_parts z 4)

pub floor_div-next_100 : (y z : ℤ) → z ≡ y +ℤ pos 1 → floor_div z 100 ≡ floor_div y 100 +ℤ pos (one_where z 100)
floor_div-next_100 y z e = grind (arith, signed, nat_tests, floor_parts y 100, floor_parts z 100)

pub floor_div-next_400 : (y z : ℤ) → z ≡ y +ℤ pos 1 → floor_div z 400 ≡ floor_div y 400 +ℤ pos (one_where z 400)
floor_div-next_400 y z e = grind (arith, signed, nat_tests, floor_parts y 400, floor_parts z 400)

-- 1 in a leap year, and 0 in another
abbrev pub leap_day : ℤ → ℕ
leap_day y = cond (gregorian_leap y) 1 0

leap_day-parts : (y : ℤ) → leap_day y + one_where y 100 ≡ one_where y 4 + one_where y 400
leap_day-parts y = grind (arith, signed, nat_tests, floor_parts y 4, floor_parts y 100, floor_parts y 400)

-- a year has 365 days and its leap day
pub gregorian_year_length-parts : (y : ℤ) → gregorian_year_length y ≡ 365 + leap_day y
gregorian_year_length-parts y = grind arith

leap_days_through-next : (y z : ℤ) → z ≡ y +ℤ pos 1 → leap_days_through z ≡ leap_days_through y +ℤ pos (leap_day z)
unfolding leap_days_through
leap_days_through-next y z e =
    omega (arith, signed, leap_day-parts z, floor_div-next_4 y z e, floor_div-next_100 y z e, floor_div-next_400 y z e)

-- the next year starts where a year ends
pub gregorian_start-next : (y : ℤ) → gregorian_start (y +ℤ pos 1) ≡ gregorian_start y +ℤ pos (gregorian_year_length y)
unfolding gregorian_start
gregorian_start-next y =
    let same : y +ℤ pos 1 -ℤ pos 1 ≡ y = omega (arith, signed) in
    rw same (omega (arith, signed, gregorian_year_length-parts y, leap_days_through-next (y -ℤ pos 1) y (omega (arith, signed))))

-- 400 times the leap days are 97 times the years, to within 396 above and 700 below
pub leap_days_through-bounds : (y : ℤ) → (up (leap_days_through y) * 400 + down y * 97 ≤ down (leap_days_through y) * 400 + up y * 97 + 396) × (down (leap_days_through y) * 400 + up y * 97 ≤ up (leap_days_through y) * 400 + down y * 97 + 700)
unfolding leap_days_through
leap_days_through-bounds y = omega (arith, signed, floor_parts y 4, floor_parts y 100, floor_parts y 400)

-- 400 times a year's first day is 146097 times the years before it, to within 796 above and 300 below
pub gregorian_start-bounds : (y : ℤ) → (up (gregorian_start y) * 400 + down y * 146097 + 146097 ≤ down (gregorian_start y) * 400 + up y * 146097 + 796) × (down (gregorian_start y) * 400 + up y * 146097 ≤ up (gregorian_start y) * 400 + down y * 146097 + 146097 + 300)
unfolding gregorian_start
gregorian_start-bounds y = omega (arith, signed, leap_days_through-bounds (y -ℤ pos 1))

-- a valid day lies in a year from -999999 to 999999
pub year_of_valid_day : (rd y : ℤ) → IsValidDay rd → gregorian_start y ≤ℤ rd → rd <ℤ gregorian_start (y +ℤ pos 1) → IsBetween (neg_ℤ (pos 999999)) (pos 999999) y
year_of_valid_day rd y valid first last =
    (omega (arith, signed, gregorian_start-bounds (y +ℤ pos 1)), omega (arith, signed, gregorian_start-bounds y))

-- a year's March 1 by its formula
pub first_of_march-formula : (y : ℤ) → first_of_march y ≡ pos 365 *ℤ y +ℤ leap_days_through y -ℤ pos 305
unfolding gregorian_start
first_of_march-formula y =
    let same : y +ℤ pos 1 -ℤ pos 1 ≡ y = omega (arith, signed) in
    rw same (omega (arith, signed))

-- the same, counted in years that begin there from so many cycles of 400 years before year 0
pub march_days-counted : (y : ℤ) (n k : ℕ) → pos n ≡ y +ℤ pos (400 * k) → pos (march_days n) ≡ first_of_march y +ℤ pos 305 +ℤ pos (146097 * k)
unfolding leap_days_through
march_days-counted y n k e = omega (arith, signed, first_of_march-formula y, floor_parts y 4, floor_parts y 100, floor_parts y 400)

-- January and February go before it
pub first_of_march-year : (y : ℤ) → first_of_march y ≡ gregorian_start y +ℤ pos (gregorian_year_length y) -ℤ pos 306
first_of_march-year y = omega (arith, signed, gregorian_start-next y)

-- the days of a year before its March 1
pub days_before_march-bounds : (y : ℤ) → (gregorian_start y ≤ℤ first_of_march y) × (first_of_march y +ℤ pos 306 ≡ gregorian_start (y +ℤ pos 1))
days_before_march-bounds y = (omega (arith, signed, first_of_march-year y, gregorian_year_length-parts y), omega (arith, signed))

-- a year starts 306 days after March 1 of the year before
pub gregorian_start-after_march : (y z m : ℤ) → z ≡ y -ℤ pos 1 → m ≡ first_of_march z → m +ℤ pos 306 ≡ gregorian_start y
gregorian_start-after_march y z m e is =
    let next : z +ℤ pos 1 ≡ y = omega (arith, signed) in
    omega (arith, signed, ap gregorian_start next)

-- the year of a valid day, by its place after a March 1: from 306 days on it is the next one
pub year_of_march_day : (rd y : ℤ) (p : ℕ) → IsValidDay rd → first_of_march y +ℤ pos p ≡ rd → p < 306 → (gregorian_start y ≤ℤ rd) × (rd <ℤ gregorian_start (y +ℤ pos 1)) × IsBetween (neg_ℤ (pos 999999)) (pos 999999) y
year_of_march_day rd y p valid day early =
    let bounds = days_before_march-bounds y in
    let first : gregorian_start y ≤ℤ rd = omega (arith, signed, bounds) in
    let last : rd <ℤ gregorian_start (y +ℤ pos 1) = omega (arith, signed, bounds) in
    (first, last, year_of_valid_day rd y valid first last)

pub year_after_march_day : (rd y z : ℤ) (p : ℕ) → z ≡ y +ℤ pos 1 → IsValidDay rd → first_of_march y +ℤ pos p ≡ rd → rd <ℤ first_of_march z → 306 ≤ p → (gregorian_start z ≤ℤ rd) × (rd <ℤ gregorian_start (z +ℤ pos 1)) × IsBetween (neg_ℤ (pos 999999)) (pos 999999) z
year_after_march_day rd y z p next valid day within late =
    let same = ap gregorian_start next in
    let bounds = days_before_march-bounds y in let after = days_before_march-bounds z in
    let first : gregorian_start z ≤ℤ rd = omega (arith, signed, bounds, same) in
    let last : rd <ℤ gregorian_start (z +ℤ pos 1) = omega (arith, signed, after) in
    (first, last, year_of_valid_day rd z valid first last)
