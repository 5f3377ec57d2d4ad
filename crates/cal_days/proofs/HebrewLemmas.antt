-- The Hebrew rule: years have one of six lengths, and the formula of their starts is nearly linear.
use Rattle.std.proofs.Common.{◌≡◌, ℕ, ◌+◌, ◌*◌, ◌/◌, ◌%◌, ◌<◌, ◌≤◌, Bool, true, false, if◌then◌else◌, nat_lt, nat_le, nat_eq, refl, sym, ap, arith, ℤ, pos, neg_ℤ, ◌+ℤ◌, ◌-ℤ◌, ◌*ℤ◌, ◌<ℤ◌, ◌≤ℤ◌}
use Rattle.std.proofs.lemmas.Bool.Decides.{nat_tests}
use Rattle.std.specs.Ordering.{int_eq}
use Rattle.cal_days.specs.Day.{IsBetween, IsValidDay}
use Rattle.cal_days.specs.Sums.{years_up}
use Rattle.cal_days.specs.Division.{floor_div, floor_mod}
use Rattle.cal_days.proofs.Signed.{signed, by_bool}
use Rattle.cal_days.proofs.DivisionLemmas.{floor_parts}
use Rattle.cal_days.specs.Hebrew.{months_before, parts_before, moon_day, is_put_off, days_elapsed, length_delay, hebrew_start, hebrew_leap, hebrew_year_length, IsHebrewLength}
use Rattle.cal_days.specs.Molad.{postponement}
use Rattle.cal_days.proofs.MoonLemmas.{late, delay, NextMoon, months_more, length_12_12_12, length_12_12_13, length_12_13_12, length_12_13_13, length_13_12_12, length_13_12_13, length_13_13_12, length_13_13_13, put_off_12_12, put_off_12_13, put_off_13_12, same_test}
use borrow.Author.Differences.{up, down}

-- the months of a year
abbrev pub year_months : ℤ → ℕ
year_months y = 12 + (if hebrew_leap y then 1 else 0)

-- the new moon of a year, counted from the Sunday n weeks before the one before year 1, and its part of the day
pub record Counted (n : ℕ) (y : ℤ) (u f : ℕ) : Type 0 where
  pub day : pos u ≡ moon_day y +ℤ pos 1 +ℤ pos (7 * n)
  pub part : f ≡ floor_mod (parts_before y) 25920

pub months_before-next : (y : ℤ) → months_before (y +ℤ pos 1) ≡ months_before y +ℤ pos (year_months y)
unfolding months_before
months_before-next y = omega (arith, signed, months_more y)

-- the next year's new moon
next_moon : (n m : ℕ) (y z : ℤ) (u f v g : ℕ) → months_before z ≡ months_before y +ℤ pos m → Counted n y u f → Counted n z v g → NextMoon m u f v g
unfolding moon_day parts_before
next_moon n m y z u f v g e a b = (
  omega (arith, signed, e, a.day, a.part, b.day, b.part, floor_parts (pos 12084 +ℤ pos 13753 *ℤ months_before y) 25920, floor_parts (pos 12084 +ℤ pos 13753 *ℤ months_before z) 25920),
  omega (arith, signed, e, a.day, a.part, b.day, b.part, floor_parts (pos 12084 +ℤ pos 13753 *ℤ months_before y) 25920, floor_parts (pos 12084 +ℤ pos 13753 *ℤ months_before z) 25920),
)

-- being put off is the same, counted from so many weeks before
late-counted : (n u : ℕ) (z : ℤ) → pos u ≡ z +ℤ pos 1 +ℤ pos (7 * n) → is_put_off z ≡ late u
late-counted n u z e =
    let same : floor_mod (pos 3 *ℤ (z +ℤ pos 1)) 7 ≡ (3 * u) % 7 = omega (arith, signed, e, floor_parts (pos 3 *ℤ (z +ℤ pos 1)) 7) in
    ap (λ (k : ℕ). if nat_lt k 3 then 1 else 0) same

-- the days before a year, counted so
elapsed-counted : (n u f : ℕ) (y : ℤ) → Counted n y u f → days_elapsed y ≡ pos (u + late u) -ℤ pos (1 + 7 * n)
unfolding days_elapsed
elapsed-counted n u f y a = omega (arith, signed, a.day, late-counted n u (moon_day y) a.day)

-- a difference of numbers that are counted so
same_difference : (a b d : ℕ) (x y : ℤ) (k : ℕ) → x ≡ pos a -ℤ pos k → y ≡ pos b -ℤ pos k → int_eq (x -ℤ y) (pos d) ≡ nat_eq a (b + d)
same_difference a b d x y k e f =
    by_bool {P = int_eq (x -ℤ y) (pos d) ≡ nat_eq a (b + d)} (nat_eq a (b + d))
    (λ (on : nat_eq a (b + d) ≡ true). let same : x -ℤ y ≡ pos d = grind (arith, signed, nat_tests) in rw (same, on) (grind (arith, nat_tests)))
    (λ (off : nat_eq a (b + d) ≡ false). grind (arith, signed, nat_tests))

-- a delay of numbers that are counted so
delay-counted : (a b c : ℕ) (x y z : ℤ) (k : ℕ) → x ≡ pos a -ℤ pos k → y ≡ pos b -ℤ pos k → z ≡ pos c -ℤ pos k → length_delay x y z ≡ delay a b c
delay-counted a b c x y z k e f g = rw (same_difference c b 356 z y k g f, same_difference b a 382 y x k f e) refl

-- a year's start, from the new moons of three years
start-counted : (n t d u f v g : ℕ) (x y z : ℤ) → y -ℤ pos 1 ≡ x → y +ℤ pos 1 ≡ z → Counted n x t d → Counted n y u f → Counted n z v g → hebrew_start y ≡ pos (u + late u + delay (t + late t) (u + late u) (v + late v)) -ℤ pos (1373428 + 7 * n)
unfolding hebrew_start
start-counted n t d u f v g x y z e i a b c =
    let delayed = delay-counted (t + late t) (u + late u) (v + late v) (days_elapsed x) (days_elapsed y) (days_elapsed z) (1 + 7 * n) (elapsed-counted n t d x a) (elapsed-counted n u f y b) (elapsed-counted n v g z c) in
    rw (e, i, delayed) (omega (arith, signed, elapsed-counted n u f y b))

-- the least length of a common year, and of a leap year
abbrev pub least_length : Bool → ℕ
least_length leap = if leap then 383 else 353

lengths : (b0 b1 b2 : Bool) (t d u f v g w h : ℕ) → d < 25920 → NextMoon (12 + (if b0 then 1 else 0)) t d u f → NextMoon (12 + (if b1 then 1 else 0)) u f v g → NextMoon (12 + (if b2 then 1 else 0)) v g w h → (u + late u + delay (t + late t) (u + late u) (v + late v) + least_length b1 ≤ v + late v + delay (u + late u) (v + late v) (w + late w)) × (v + late v + delay (u + late u) (v + late v) (w + late w) ≤ u + late u + delay (t + late t) (u + late u) (v + late v) + (least_length b1 + 2))
lengths false false false t d u f v g w h s i j k = length_12_12_12 t d u f v g w h s i j k
lengths false false true t d u f v g w h s i j k = length_12_12_13 t d u f v g w h s i j k
lengths false true false t d u f v g w h s i j k = length_12_13_12 t d u f v g w h s i j k
lengths false true true t d u f v g w h s i j k = length_12_13_13 t d u f v g w h s i j k
lengths true false false t d u f v g w h s i j k = length_13_12_12 t d u f v g w h s i j k
lengths true false true t d u f v g w h s i j k = length_13_12_13 t d u f v g w h s i j k
lengths true true false t d u f v g w h s i j k = length_13_13_12 t d u f v g w h s i j k
lengths true true true t d u f v g w h s i j k = length_13_13_13 t d u f v g w h s i j k

-- a new moon is so counted, where it isn't earlier than that
abbrev counted_day : ℕ → ℤ → ℕ
counted_day n y = years_up (moon_day y +ℤ pos 1 +ℤ pos (7 * n))

abbrev part_of : ℤ → ℕ
part_of y = floor_mod (parts_before y) 25920

counted : (n : ℕ) (y : ℤ) → down (moon_day y) ≤ up (moon_day y) + 7 * n → Counted n y (counted_day n y) (part_of y)
counted n y h = record { day = omega (arith, signed, h); part = refl }

-- new moons rise
pub moon_day-rises : (y z : ℤ) → z ≡ y +ℤ pos 1 → up (moon_day y) + down (moon_day z) ≤ down (moon_day y) + up (moon_day z)
unfolding moon_day parts_before
moon_day-rises y z e =
    let next : months_before z ≡ months_before y +ℤ pos (year_months y) = rw e (months_before-next y) in
    omega (arith, signed, next, floor_parts (pos 12084 +ℤ pos 13753 *ℤ months_before y) 25920, floor_parts (pos 12084 +ℤ pos 13753 *ℤ months_before z) 25920)

months-next : (y z : ℤ) → y +ℤ pos 1 ≡ z → months_before z ≡ months_before y +ℤ pos (year_months y)
months-next y z e = rw (← e) (months_before-next y)

spread : (p q k l : ℕ) (s r : ℤ) → s ≡ pos p -ℤ pos k → r ≡ pos q -ℤ pos k → (p + l ≤ q) × (q ≤ p + (l + 2)) → ((s +ℤ pos l) ≤ℤ r) × (r ≤ℤ (s +ℤ pos (l + 2)))
spread p q k l s r e f (low, high) = (omega (arith, signed, e, f, low), omega (arith, signed, e, f, high))

-- a year and the next one start so many days apart
pub apart : (x y z w : ℤ) → y -ℤ pos 1 ≡ x → y +ℤ pos 1 ≡ z → z +ℤ pos 1 ≡ w → ((hebrew_start y +ℤ pos (least_length (hebrew_leap y))) ≤ℤ hebrew_start z) × (hebrew_start z ≤ℤ (hebrew_start y +ℤ pos (least_length (hebrew_leap y) + 2)))
apart x y z w e i j =
    let n = down (moon_day x) in
    let e1 : x +ℤ pos 1 ≡ y = omega (arith, signed, e) in
    let i1 : z -ℤ pos 1 ≡ y = omega (arith, signed, i) in
    let rise_y = moon_day-rises x y (sym e1) in
    let rise_z = moon_day-rises y z (sym i) in
    let rise_w = moon_day-rises z w (sym j) in
    let a : Counted n x (counted_day n x) (part_of x) = counted n x (omega arith) in
    let b : Counted n y (counted_day n y) (part_of y) = counted n y (omega arith) in
    let c : Counted n z (counted_day n z) (part_of z) = counted n z (omega arith) in
    let d : Counted n w (counted_day n w) (part_of w) = counted n w (omega arith) in
    let small : part_of x < 25920 = omega (arith, signed, floor_parts (parts_before x) 25920) in
    let far = lengths (hebrew_leap x) (hebrew_leap y) (hebrew_leap z) (counted_day n x) (part_of x) (counted_day n y) (part_of y) (counted_day n z) (part_of z) (counted_day n w) (part_of w) small
    (next_moon n (year_months x) x y (counted_day n x) (part_of x) (counted_day n y) (part_of y) (months-next x y e1) a b)
    (next_moon n (year_months y) y z (counted_day n y) (part_of y) (counted_day n z) (part_of z) (months-next y z i) b c)
    (next_moon n (year_months z) z w (counted_day n z) (part_of z) (counted_day n w) (part_of w) (months-next z w j) c d) in
    let sy = start-counted n (counted_day n x) (part_of x) (counted_day n y) (part_of y) (counted_day n z) (part_of z) x y z e i a b c in
    let sz = start-counted n (counted_day n y) (part_of y) (counted_day n z) (part_of z) (counted_day n w) (part_of w) y z w i1 j b c d in
    spread (counted_day n y + late (counted_day n y) + delay (counted_day n x + late (counted_day n x)) (counted_day n y + late (counted_day n y)) (counted_day n z + late (counted_day n z))) (counted_day n z + late (counted_day n z) + delay (counted_day n y + late (counted_day n y)) (counted_day n z + late (counted_day n z)) (counted_day n w + late (counted_day n w))) (1373428 + 7 * n) (least_length (hebrew_leap y)) (hebrew_start y) (hebrew_start z) sy sz far

within : (leap : Bool) (n : ℕ) → least_length leap ≤ n → n ≤ least_length leap + 2 → IsHebrewLength leap n
within false n low high = grind arith
within true n low high = grind arith

-- a year has one of the six lengths
pub hebrew_year_length-is : (y : ℤ) → IsHebrewLength (hebrew_leap y) (hebrew_year_length y)
unfolding hebrew_year_length
hebrew_year_length-is y =
    let far = apart (y -ℤ pos 1) y (y +ℤ pos 1) (y +ℤ pos 1 +ℤ pos 1) refl refl refl in
    within (hebrew_leap y) (years_up (hebrew_start (y +ℤ pos 1) -ℤ hebrew_start y)) (omega (arith, signed, far)) (omega (arith, signed, far))

-- the next year starts where a year ends
pub hebrew_start-next : (y : ℤ) → hebrew_start (y +ℤ pos 1) ≡ hebrew_start y +ℤ pos (hebrew_year_length y)
unfolding hebrew_year_length
hebrew_start-next y =
    let far = apart (y -ℤ pos 1) y (y +ℤ pos 1) (y +ℤ pos 1 +ℤ pos 1) refl refl refl in
    omega (arith, signed, far)

-- 492480 times a new moon's day is 179876755 times the year, to within 14270255 below a constant
pub moon_day-bounds : (y : ℤ) → ((pos 492480 *ℤ moon_day y) ≤ℤ (pos 179876755 *ℤ y -ℤ pos 178881726)) × ((pos 179876755 *ℤ y -ℤ pos 193151981) ≤ℤ (pos 492480 *ℤ moon_day y))
unfolding moon_day parts_before months_before
moon_day-bounds y =
    let months = floor_parts (pos 235 *ℤ y -ℤ pos 234) 19 (omega arith) in
    let days = floor_parts (pos 12084 +ℤ pos 13753 *ℤ floor_div (pos 235 *ℤ y -ℤ pos 234) 19) 25920 (omega arith) in
    (omega (arith, signed, months, days), omega (arith, signed, months, days))

put_off-most : (n : ℤ) → is_put_off n ≤ 1
put_off-most n = grind (arith, nat_tests)

delay-most : (x y z : ℤ) → length_delay x y z ≤ 2
delay-most x y z = grind arith

-- and so is a year's first day, to within 1477440 above and 14270255 below
pub hebrew_start-bounds : (y : ℤ) → ((pos 492480 *ℤ hebrew_start y) ≤ℤ (pos 179876755 *ℤ y -ℤ pos 676562733246)) × ((pos 179876755 *ℤ y -ℤ pos 676578480941) ≤ℤ (pos 492480 *ℤ hebrew_start y))
unfolding hebrew_start days_elapsed
hebrew_start-bounds y =
    let most = delay-most (moon_day (y -ℤ pos 1) +ℤ pos (is_put_off (moon_day (y -ℤ pos 1)))) (moon_day y +ℤ pos (is_put_off (moon_day y))) (moon_day (y +ℤ pos 1) +ℤ pos (is_put_off (moon_day (y +ℤ pos 1)))) in
    (omega (arith, signed, moon_day-bounds y, put_off-most (moon_day y), most), omega (arith, signed, moon_day-bounds y, put_off-most (moon_day y), most))

-- the linear estimate gives the year of a day, or the next one
pub hebrew_start-near : (rd y : ℤ) → y ≡ floor_div (pos 98496 *ℤ (rd +ℤ pos 1373827)) 35975351 → (hebrew_start (y -ℤ pos 1) ≤ℤ rd) × (rd <ℤ hebrew_start (y +ℤ pos 1))
hebrew_start-near rd y e =
    let parts = floor_parts (pos 98496 *ℤ (rd +ℤ pos 1373827)) 35975351 (omega arith) in
    (omega (arith, signed, e, parts, hebrew_start-bounds (y -ℤ pos 1)), omega (arith, signed, e, parts, hebrew_start-bounds (y +ℤ pos 1)))

-- the years of the valid days
pub hebrew_year_of_valid_day : (rd y : ℤ) → IsValidDay rd → hebrew_start y ≤ℤ rd → rd <ℤ hebrew_start (y +ℤ pos 1) → IsBetween (neg_ℤ (pos 996300)) (pos 1003800) y
hebrew_year_of_valid_day rd y valid first last =
    (omega (arith, signed, hebrew_start-bounds (y +ℤ pos 1)), omega (arith, signed, hebrew_start-bounds y))

-- no year has more than 385 days
pub hebrew_year_length-most : (y : ℤ) → hebrew_year_length y ≤ 385
hebrew_year_length-most y = most (hebrew_leap y) (hebrew_year_length y) (hebrew_year_length-is y) where
  most : (leap : Bool) (n : ℕ) → IsHebrewLength leap n → n ≤ 385
  most false n h = grind arith
  most true n h = grind arith

-- what division by 19 leaves of the months before a year, in nineteenths
abbrev pub left_of : ℤ → ℕ
left_of y = floor_mod (pos 235 *ℤ y -ℤ pos 234) 19

-- by it a year is a leap year, and so is the year before
left-leap : (y : ℤ) → hebrew_leap y ≡ nat_le 12 (left_of y)
left-leap y =
    same_test (hebrew_leap y) (nat_le 12 (left_of y))
    (λ e. grind (arith, signed, nat_tests, floor_parts (pos 235 *ℤ y -ℤ pos 234) 19, floor_parts (pos 7 *ℤ y +ℤ pos 1) 19))
    (λ e. grind (arith, signed, nat_tests, floor_parts (pos 235 *ℤ y -ℤ pos 234) 19, floor_parts (pos 7 *ℤ y +ℤ pos 1) 19))

left-leap_before : (x y : ℤ) → x +ℤ pos 1 ≡ y → hebrew_leap x ≡ nat_lt (left_of y) 7
left-leap_before x y next =
    same_test (hebrew_leap x) (nat_lt (left_of y) 7)
    (λ e. grind (arith, signed, nat_tests, floor_parts (pos 235 *ℤ y -ℤ pos 234) 19, floor_parts (pos 7 *ℤ x +ℤ pos 1) 19))
    (λ e. grind (arith, signed, nat_tests, floor_parts (pos 235 *ℤ y -ℤ pos 234) 19, floor_parts (pos 7 *ℤ x +ℤ pos 1) 19))

put_off : (b0 b1 : Bool) (t d u f v g r : ℕ) → d < 25920 → b0 ≡ nat_lt r 7 → b1 ≡ nat_le 12 r → NextMoon (12 + (if b0 then 1 else 0)) t d u f → NextMoon (12 + (if b1 then 1 else 0)) u f v g → late u + delay (t + late t) (u + late u) (v + late v) ≡ postponement (u % 7) f r
put_off true true t d u f v g r s e i a b = absurd (grind (arith, nat_tests))
put_off true false t d u f v g r s e i a b = put_off_13_12 t d u f v g r s (grind (arith, nat_tests)) a b
put_off false true t d u f v g r s e i a b = put_off_12_13 t d u f v g r s (grind (arith, nat_tests)) a b
put_off false false t d u f v g r s e i a b = put_off_12_12 t d u f v g r s (grind (arith, nat_tests)) (grind (arith, nat_tests)) a b

-- a year starts so many days after its new moon
starts : (n : ℕ) (x y z : ℤ) → y -ℤ pos 1 ≡ x → y +ℤ pos 1 ≡ z → down (moon_day x) ≤ up (moon_day x) + 7 * n → hebrew_start y ≡ pos (counted_day n y + postponement (counted_day n y % 7) (part_of y) (left_of y)) -ℤ pos (1373428 + 7 * n)
starts n x y z e i h =
    let e1 : x +ℤ pos 1 ≡ y = omega (arith, signed, e) in
    let rise_y = moon_day-rises x y (sym e1) in
    let rise_z = moon_day-rises y z (sym i) in
    let a : Counted n x (counted_day n x) (part_of x) = counted n x h in
    let b : Counted n y (counted_day n y) (part_of y) = counted n y (omega arith) in
    let c : Counted n z (counted_day n z) (part_of z) = counted n z (omega arith) in
    let small : part_of x < 25920 = omega (arith, signed, floor_parts (parts_before x) 25920) in
    let late_by = put_off (hebrew_leap x) (hebrew_leap y) (counted_day n x) (part_of x) (counted_day n y) (part_of y) (counted_day n z) (part_of z) (left_of y) small (left-leap_before x y e1) (left-leap y)
    (next_moon n (year_months x) x y (counted_day n x) (part_of x) (counted_day n y) (part_of y) (months-next x y e1) a b)
    (next_moon n (year_months y) y z (counted_day n y) (part_of y) (counted_day n z) (part_of z) (months-next y z i) b c) in
    let start = start-counted n (counted_day n x) (part_of x) (counted_day n y) (part_of y) (counted_day n z) (part_of z) x y z e i a b c in
    omega (arith, signed, start, late_by)

-- the same, by a new moon that is counted from 12 times the years in which the years repeat
pub start-of_molad : (y : ℤ) (u f r : ℕ) → IsBetween (neg_ℤ (pos 8000001)) (pos 8000001) y → pos u ≡ moon_day y +ℤ pos 3021929485 → f ≡ floor_mod (parts_before y) 25920 → r ≡ floor_mod (pos 235 *ℤ y -ℤ pos 234) 19 → hebrew_start y ≡ pos (u + postponement (u % 7) f r) -ℤ pos 3023302912
start-of_molad y u f r (low, high) day part left =
    let far : down (moon_day (y -ℤ pos 1)) ≤ up (moon_day (y -ℤ pos 1)) + 7 * 431704212 = omega (arith, signed, moon_day-bounds (y -ℤ pos 1)) in
    let same : u ≡ counted_day 431704212 y = omega (arith, signed, day) in
    rw (same, part, left) (starts 431704212 (y -ℤ pos 1) y (y +ℤ pos 1) refl refl far)

-- no year is put off by more than 2 days
pub postponement-most : (w f r : ℕ) → postponement w f r ≤ 2
postponement-most w f r = grind (arith, nat_tests)

-- a year's new moon, so counted
pub molad-counted : (y : ℤ) (n : ℕ) → pos n ≡ pos 235 *ℤ y -ℤ pos 234 +ℤ pos 1944311040 → (pos ((765433 * (n / 19) + 38004) / 25920) ≡ moon_day y +ℤ pos 3021929485) × ((765433 * (n / 19) + 38004) % 25920 ≡ floor_mod (parts_before y) 25920) × (n % 19 ≡ floor_mod (pos 235 *ℤ y -ℤ pos 234) 19)
unfolding moon_day parts_before months_before
molad-counted y n e =
    let months : pos (n / 19) ≡ floor_div (pos 235 *ℤ y -ℤ pos 234) 19 +ℤ pos 102332160 = omega (arith, signed, floor_parts (pos 235 *ℤ y -ℤ pos 234) 19 (omega arith)) in
    let left : n % 19 ≡ floor_mod (pos 235 *ℤ y -ℤ pos 234) 19 = omega (arith, signed, floor_parts (pos 235 *ℤ y -ℤ pos 234) 19 (omega arith)) in
    let parts = floor_parts (pos 12084 +ℤ pos 13753 *ℤ floor_div (pos 235 *ℤ y -ℤ pos 234) 19) 25920 (omega arith) in
    (omega (arith, signed, months, parts), omega (arith, signed, months, parts), left)

-- the linear estimate, so counted
pub near-counted : (rd : ℤ) (n : ℕ) → pos n ≡ rd +ℤ pos 505028741 → floor_div (pos 98496 *ℤ (rd +ℤ pos 1373827)) 35975351 ≡ pos (98496 * n / 35975351) -ℤ pos 1378944
near-counted rd n e = omega (arith, signed, floor_parts (pos 98496 *ℤ (rd +ℤ pos 1373827)) 35975351 (omega arith))

-- the year of a valid day, by the place of the day in it
pub hebrew_year_of_day : (rd y : ℤ) (p n : ℕ) → IsValidDay rd → hebrew_start y +ℤ pos p ≡ rd → n ≡ hebrew_year_length y → p < n → IsBetween (neg_ℤ (pos 996300)) (pos 1003800) y
hebrew_year_of_day rd y p n valid day length within =
    hebrew_year_of_valid_day rd y valid (omega (arith, signed)) (omega (arith, signed, hebrew_start-next y))
