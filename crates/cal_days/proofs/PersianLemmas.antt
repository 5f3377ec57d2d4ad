-- The Persian rule: years join by the closed formula, and the formula is nearly linear.
use Rattle.std.proofs.Common.{◌≡◌, ℕ, ◌+◌, ◌*◌, ◌/◌, ◌≤◌, true, false, arith, refl, cond, ℤ, pos, ◌+ℤ◌, ◌-ℤ◌, ◌*ℤ◌, ◌<ℤ◌, ◌≤ℤ◌}
use Rattle.std.proofs.lemmas.Bool.Decides.{nat_tests}
use Rattle.cal_days.specs.Division.{floor_div, floor_mod}
use Rattle.cal_days.specs.Persian.{persian_leap, persian_year_length, persian_start}
use Rattle.cal_days.proofs.Signed.{signed}
use Rattle.cal_days.proofs.DivisionLemmas.{floor_parts}
use borrow.Author.Differences.{up, down}

-- 1 in a leap year, and 0 in another
abbrev pub persian_leap_day : ℤ → ℕ
persian_leap_day y = cond (persian_leap y) 1 0

pub persian_year_length-parts : (y : ℤ) → persian_year_length y ≡ 365 + persian_leap_day y
persian_year_length-parts y = grind arith

-- what is left of 25 y + 11 is 32 less what is left of 8 y + 21
mirrored : (y : ℤ) → floor_mod (pos 25 *ℤ y +ℤ pos 11) 33 + floor_mod (pos 8 *ℤ y +ℤ pos 21) 33 ≡ 32
mirrored y = omega (arith, signed, floor_parts (pos 25 *ℤ y +ℤ pos 11) 33 (omega arith), floor_parts (pos 8 *ℤ y +ℤ pos 21) 33 (omega arith))

-- so the quotient grows by one past each leap year
quotient_next : (y z : ℤ) → z ≡ y +ℤ pos 1 → floor_div (pos 8 *ℤ z +ℤ pos 21) 33 ≡ floor_div (pos 8 *ℤ y +ℤ pos 21) 33 +ℤ pos (persian_leap_day y)
quotient_next y z e = grind (arith, signed, nat_tests, mirrored y, floor_parts (pos 8 *ℤ y +ℤ pos 21) 33, floor_parts (pos 8 *ℤ z +ℤ pos 21) 33)

-- the next year starts where a year ends
pub persian_start-next : (y : ℤ) → persian_start (y +ℤ pos 1) ≡ persian_start y +ℤ pos (persian_year_length y)
unfolding persian_start
persian_start-next y = omega (arith, signed, persian_year_length-parts y, quotient_next y (y +ℤ pos 1) refl)

-- 33 times a year's first day is 12053 times the years before it, less at most 3 or more by at most 29, and it is a multiple of 33
pub persian_start-bounds : (y : ℤ) → (up (persian_start y) * 33 + down y * 12053 + 12053 ≤ down (persian_start y) * 33 + up y * 12053 + 7487535 + 29) × (down (persian_start y) * 33 + up y * 12053 + 7487535 ≤ up (persian_start y) * 33 + down y * 12053 + 12053 + 3)
unfolding persian_start
persian_start-bounds y = omega (arith, signed, floor_parts (pos 8 *ℤ y +ℤ pos 21) 33)

-- the linear formula gives the year of a day
pub persian_start-finds : (rd y : ℤ) → y ≡ floor_div (pos 33 *ℤ (rd -ℤ pos 226895) +ℤ pos 3) 12053 +ℤ pos 1 → (persian_start y ≤ℤ rd) × (rd <ℤ persian_start (y +ℤ pos 1))
unfolding persian_start
persian_start-finds rd y e =
    let parts = floor_parts (pos 33 *ℤ (rd -ℤ pos 226895) +ℤ pos 3) 12053 (omega arith) in
    let rest = floor_parts (pos 8 *ℤ y +ℤ pos 21) 33 (omega arith) in
    let next = floor_parts (pos 8 *ℤ (y +ℤ pos 1) +ℤ pos 21) 33 (omega arith) in
    (omega (arith, signed, parts, rest), omega (arith, signed, parts, next))

-- the linear formula, counted from 1023000 years before
pub persian_years-counted : (rd : ℤ) (n : ℕ) → pos n ≡ rd +ℤ pos 373416105 → floor_div (pos 33 *ℤ (rd -ℤ pos 226895) +ℤ pos 3) 12053 ≡ pos ((33 * n + 3) / 12053) -ℤ pos 1023000
persian_years-counted rd n e = omega (arith, signed, floor_parts (pos 33 *ℤ (rd -ℤ pos 226895) +ℤ pos 3) 12053 (omega arith))

-- no two years in a row are leap years
pub persian_leap-apart : (y z : ℤ) → z ≡ y +ℤ pos 1 → persian_leap y ≡ true → persian_leap z ≡ false
persian_leap-apart y z e h = grind (arith, signed, nat_tests, floor_parts (pos 25 *ℤ y +ℤ pos 11) 33, floor_parts (pos 25 *ℤ z +ℤ pos 11) 33)
