-- The Islamic rules: years join by the closed formulas, and the formulas are nearly linear.
use Rattle.std.proofs.Common.{◌≡◌, ℕ, zero, suc, ◌+◌, ◌⊎◌, inl, inr, arith, refl, cond, ℤ, pos, negsuc, neg_ℤ, ◌+ℤ◌, ◌-ℤ◌, ◌*ℤ◌, ◌<ℤ◌, ◌≤ℤ◌}
use Rattle.std.specs.Prelude.{int_div}
use Rattle.std.proofs.lemmas.Bool.Decides.{nat_tests}
use Rattle.std.proofs.lemmas.Int.{by_lt_z}
use Rattle.cal_days.specs.Day.{IsBetween, IsValidDay}
use Rattle.cal_days.specs.Division.{floor_div}
use Rattle.cal_days.specs.Islamic.{IsIslamicEpoch, islamic_leap, islamic_year_length, islamic_start, islamic_mean_start}
use Rattle.cal_days.proofs.Signed.{signed}
use Rattle.cal_days.proofs.DivisionLemmas.{floor_parts}

abbrev pub islamic_leap_day : ℤ → ℕ
islamic_leap_day y = cond (islamic_leap y) 1 0

pub islamic_year_length-parts : (y : ℤ) → islamic_year_length y ≡ 354 + islamic_leap_day y
islamic_year_length-parts y = grind arith

-- the quotient grows by one past each leap year
quotient_next : (y z : ℤ) → z ≡ y +ℤ pos 1 → floor_div (pos 11 *ℤ z +ℤ pos 3) 30 ≡ floor_div (pos 11 *ℤ y +ℤ pos 3) 30 +ℤ pos (islamic_leap_day y)
quotient_next y z e =
    let same : pos 11 *ℤ z +ℤ pos 3 ≡ pos 11 *ℤ y +ℤ pos 14 = omega (arith, signed) in
    rw same (grind (arith, signed, nat_tests, floor_parts (pos 11 *ℤ y +ℤ pos 14) 30, floor_parts (pos 11 *ℤ y +ℤ pos 3) 30))

-- the next year starts where a year ends
pub islamic_start-next : (epoch y : ℤ) → islamic_start epoch (y +ℤ pos 1) ≡ islamic_start epoch y +ℤ pos (islamic_year_length y)
unfolding islamic_start
islamic_start-next epoch y = omega (arith, signed, islamic_year_length-parts y, quotient_next y (y +ℤ pos 1) refl)

-- division toward 0 rounds down what isn't negative
thirtieth-up : (a : ℤ) → pos 0 ≤ℤ a → ((pos 30 *ℤ int_div a (pos 30)) ≤ℤ a) × (a ≤ℤ (pos 30 *ℤ int_div a (pos 30) +ℤ pos 29))
thirtieth-up (pos n) h = (omega (arith, signed), omega (arith, signed))
thirtieth-up (negsuc n) h = absurd (omega (arith, signed))

-- and up what isn't positive
thirtieth-down : (a : ℤ) → a ≤ℤ pos 0 → (a ≤ℤ (pos 30 *ℤ int_div a (pos 30))) × ((pos 30 *ℤ int_div a (pos 30)) ≤ℤ (a +ℤ pos 29))
thirtieth-down (pos zero) h = (omega (arith, signed), omega (arith, signed))
thirtieth-down (pos (suc n)) h = absurd (omega (arith, signed))
thirtieth-down (negsuc n) h = (omega (arith, signed), omega (arith, signed))

-- 30 times a mean start is nearly 10631 times the year: from year 1 on it is rounded down
pub mean_start-after : (y : ℤ) → pos 1 ≤ℤ y → ((pos 30 *ℤ islamic_mean_start y) ≤ℤ (pos 10631 *ℤ y +ℤ pos 6799819)) × ((pos 10631 *ℤ y +ℤ pos 6799819) ≤ℤ (pos 30 *ℤ islamic_mean_start y +ℤ pos 29))
unfolding islamic_mean_start
mean_start-after y h =
    let days = thirtieth-up ((y -ℤ pos 1) *ℤ pos 10631) (omega (arith, signed)) in
    (omega (arith, signed, days), omega (arith, signed, days))

-- and before it up
pub mean_start-before : (y : ℤ) → y ≤ℤ pos 1 → ((pos 10631 *ℤ y +ℤ pos 6799819) ≤ℤ (pos 30 *ℤ islamic_mean_start y)) × ((pos 30 *ℤ islamic_mean_start y) ≤ℤ (pos 10631 *ℤ y +ℤ pos 6799848))
unfolding islamic_mean_start
mean_start-before y h =
    let days = thirtieth-down ((y -ℤ pos 1) *ℤ pos 10631) (omega (arith, signed)) in
    (omega (arith, signed, days), omega (arith, signed, days))

-- in any year
pub mean_start-bounds : (y : ℤ) → ((pos 30 *ℤ islamic_mean_start y) ≤ℤ (pos 10631 *ℤ y +ℤ pos 6799848)) × ((pos 10631 *ℤ y +ℤ pos 6799819) ≤ℤ (pos 30 *ℤ islamic_mean_start y +ℤ pos 29))
mean_start-bounds y =
    by_lt_z {P = ((pos 30 *ℤ islamic_mean_start y) ≤ℤ (pos 10631 *ℤ y +ℤ pos 6799848)) × ((pos 10631 *ℤ y +ℤ pos 6799819) ≤ℤ (pos 30 *ℤ islamic_mean_start y +ℤ pos 29))} y (pos 1)
    (λ lt. let h = mean_start-before y (omega (arith, signed)) in (omega (arith, signed, h), omega (arith, signed, h)))
    (λ le. let h = mean_start-after y le in (omega (arith, signed, h), omega (arith, signed, h)))

-- a tabular year starts at most two days before its mean start and a day after it
pub islamic_start-near : (epoch y : ℤ) → IsIslamicEpoch epoch → IsBetween (islamic_mean_start y -ℤ pos 2) (islamic_mean_start y +ℤ pos 1) (islamic_start epoch y)
unfolding islamic_start
islamic_start-near epoch y h =
    let parts = floor_parts (pos 11 *ℤ y +ℤ pos 3) 30 (omega arith) in
    let mean = mean_start-bounds y in
    (omega (arith, signed, h, parts, mean), omega (arith, signed, h, parts, mean))

-- a number between two neighbours is one of them
one_of_two : (a b : ℤ) → (b +ℤ pos 354) ≤ℤ a → a <ℤ (b +ℤ pos 356) → (a ≡ b +ℤ pos 354) ⊎ (a ≡ b +ℤ pos 355)
one_of_two a b low high =
    by_lt_z {P = (a ≡ b +ℤ pos 354) ⊎ (a ≡ b +ℤ pos 355)} a (b +ℤ pos 355) (λ lt. inl (omega (arith, signed))) (λ le. inr (omega (arith, signed)))

-- a mean year has 354 or 355 days
pub mean_start-next : (y : ℤ) → (islamic_mean_start (y +ℤ pos 1) ≡ islamic_mean_start y +ℤ pos 354) ⊎ (islamic_mean_start (y +ℤ pos 1) ≡ islamic_mean_start y +ℤ pos 355)
mean_start-next y =
    by_lt_z {P = (islamic_mean_start (y +ℤ pos 1) ≡ islamic_mean_start y +ℤ pos 354) ⊎ (islamic_mean_start (y +ℤ pos 1) ≡ islamic_mean_start y +ℤ pos 355)} y (pos 1)
    (λ lt.
    let this = mean_start-before y (omega (arith, signed)) in
    let next = mean_start-before (y +ℤ pos 1) (omega (arith, signed)) in
    one_of_two (islamic_mean_start (y +ℤ pos 1)) (islamic_mean_start y) (omega (arith, signed, this, next)) (omega (arith, signed, this, next)))
    (λ le.
    let this = mean_start-after y le in
    let next = mean_start-after (y +ℤ pos 1) (omega (arith, signed)) in
    one_of_two (islamic_mean_start (y +ℤ pos 1)) (islamic_mean_start y) (omega (arith, signed, this, next)) (omega (arith, signed, this, next)))

-- the last year whose mean start is on or before a day from year 1 on
pub mean_year-after : (rd y : ℤ) → pos 227015 ≤ℤ rd → y ≡ floor_div (pos 30 *ℤ (rd -ℤ pos 227015) +ℤ pos 29) 10631 +ℤ pos 1 → (islamic_mean_start y ≤ℤ rd) × (rd <ℤ islamic_mean_start (y +ℤ pos 1))
mean_year-after rd y h e =
    let parts = floor_parts (pos 30 *ℤ (rd -ℤ pos 227015) +ℤ pos 29) 10631 (omega arith) in
    let later : pos 1 ≤ℤ y = omega (arith, signed, parts) in
    (omega (arith, signed, parts, mean_start-after y later), omega (arith, signed, parts, mean_start-after (y +ℤ pos 1) (omega (arith, signed))))

-- and before year 1
pub mean_year-before : (rd y : ℤ) → rd <ℤ pos 227015 → y ≡ floor_div (pos 30 *ℤ (rd -ℤ pos 227015)) 10631 +ℤ pos 1 → (islamic_mean_start y ≤ℤ rd) × (rd <ℤ islamic_mean_start (y +ℤ pos 1))
mean_year-before rd y h e =
    let parts = floor_parts (pos 30 *ℤ (rd -ℤ pos 227015)) 10631 (omega arith) in
    let earlier : y ≤ℤ pos 0 = omega (arith, signed, parts) in
    (omega (arith, signed, parts, mean_start-before y (omega (arith, signed))), omega (arith, signed, parts, mean_start-before (y +ℤ pos 1) (omega (arith, signed))))

-- a valid day's is from -1032000 to 1032000
pub mean_year_of_valid_day : (rd y : ℤ) → IsValidDay rd → islamic_mean_start y ≤ℤ rd → rd <ℤ islamic_mean_start (y +ℤ pos 1) → IsBetween (neg_ℤ (pos 1032000)) (pos 1032000) y
mean_year_of_valid_day rd y valid first last =
    (omega (arith, signed, valid, mean_start-bounds (y +ℤ pos 1)), omega (arith, signed, valid, mean_start-bounds y))
