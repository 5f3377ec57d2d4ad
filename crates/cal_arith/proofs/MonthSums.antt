-- Sums of years, months and days over plain numbers, as the code counts them in 32 and in 64 bits.
use Rattle.std.proofs.Common.{◌≡◌, Fits, ℕ, ℤ, pos, neg_ℤ, ◌+◌, ◌-◌, ◌*◌, ◌/◌, ◌<◌, ◌≤◌, ◌+ℤ◌, ◌-ℤ◌, ◌*ℤ◌, ◌<ℤ◌, ◌≤ℤ◌, nat_abs, to_z, of_z, w16, w32, w64, arith}
use Rattle.cal_days.specs.Day.{IsBetween, IsFieldYear, IsRuleYear}
use Rattle.cal_days.proofs.Signed.{signed, signed_casts}
use borrow.Author.Differences.{up, down}
use lib.Dec.{T}
use lib.Signed.{non_neg}

-- the days of a year, counted from 0, as they are cast to 16 bits
pub cast_fits : (d : ℤ) → (up d < down d + 403) × (down d ≤ up d) → T (non_neg (to_z w64 (of_z w64 d))) × Fits w16 (nat_abs (to_z w64 (of_z w64 d)))
cast_fits d few = omega (arith, signed_casts, few)

pub cast_next_fits : (d : ℤ) → (up d < down d + 403) × (down d ≤ up d) → Fits w16 (nat_abs (to_z w64 (of_z w64 d)) + 1)
cast_next_fits d few = omega (arith, signed_casts, few)

pub cast_same : (d : ℤ) → (up d < down d + 403) × (down d ≤ up d) → pos (nat_abs (to_z w64 (of_z w64 d))) ≡ d
cast_same d few = omega (arith, signed_casts, few)

pub cast_within : (start day d : ℤ) (n length : ℕ) → pos n ≡ d → start +ℤ d ≡ day → day <ℤ (start +ℤ pos length) → n < length
cast_within start day d n length same leads before = omega (arith, signed, same, leads, before)

pub next_day : (start day d : ℤ) (n : ℕ) → pos n ≡ d → start +ℤ d ≡ day → start +ℤ pos (n + 1) ≡ day +ℤ pos 1
next_day start day d n same leads = omega (arith, signed, same, leads)

-- a year so many years ahead, where the months don't lead past year 7916666
pub ahead_word : (x y : ℤ) (n m : ℕ) → x ≡ y → IsRuleYear y → (pos 12 *ℤ y +ℤ pos m) ≤ℤ pos 95000000 → 12 * n ≤ m → to_z w32 (of_z w32 (to_z w32 (of_z w32 x) +ℤ to_z w32 n)) ≡ y +ℤ pos n
ahead_word x y n m e h range few = omega (arith, signed_casts, e, h, range, few)

pub ahead_rule : (y : ℤ) (n m : ℕ) → IsRuleYear y → (pos 12 *ℤ y +ℤ pos m) ≤ℤ pos 95000000 → 12 * n ≤ m → IsRuleYear (y +ℤ pos n)
ahead_rule y n m h range few = omega (arith, signed, h, range, few)

pub following_rule : (y : ℤ) (m : ℕ) → IsRuleYear y → (pos 12 *ℤ y +ℤ pos m) ≤ℤ pos 95000000 → IsRuleYear (y +ℤ pos 1)
following_rule y m h range = omega (arith, signed, h, range)

-- n years have from 12 n to 13 n months
pub months_of_years : (a b first last : ℤ) (n months : ℕ) → b ≡ a +ℤ pos n → ((pos 12 *ℤ (b -ℤ a)) ≤ℤ (last -ℤ first)) × ((last -ℤ first) ≤ℤ (pos 13 *ℤ (b -ℤ a))) → last ≡ first +ℤ pos months → (12 * n ≤ months) × (months ≤ 13 * n)
months_of_years a b first last n months years bounds count = (omega (arith, signed, years, bounds, count), omega (arith, signed, years, bounds, count))

-- some of the months lead to the later year, and the others are left
pub left_over : (there here : ℤ) (n months : ℕ) → there ≡ here +ℤ pos n → n ≤ months → there +ℤ pos (months - n) ≡ here +ℤ pos months
left_over there here n months e within = omega (arith, signed, e, within)

pub fewer_left : (years n months : ℕ) → 12 * years ≤ n → 1 ≤ years → n ≤ months → months - n < months
fewer_left years n months least some within = omega (arith, least, some, within)

pub bound_left : (there here : ℤ) (years n months : ℕ) → there ≡ here +ℤ pos years → 12 * years ≤ n → n ≤ months → (pos 12 *ℤ there +ℤ pos (months - n)) ≤ℤ (pos 12 *ℤ here +ℤ pos months)
bound_left there here years n months e least within = omega (arith, signed, e, least, within)

-- a year from which months are counted, and the year before it
pub near_rule : (y : ℤ) → IsBetween (neg_ℤ (pos 2080000)) (pos 2080000) y → IsRuleYear y
near_rule y h = (omega (arith, signed, h.0), omega (arith, signed, h.1))

pub previous_rule : (y : ℤ) → IsBetween (neg_ℤ (pos 2080000)) (pos 2080000) y → IsRuleYear (y -ℤ pos 1)
previous_rule y h = omega (arith, signed, h)

-- the year from which months are counted forward in place of back
pub before_word : (x y : ℤ) (m : ℕ) → x ≡ y → IsBetween (neg_ℤ (pos 2080000)) (pos 2080000) y → m ≤ 27050000
    → to_z w32 (of_z w32 (to_z w32 (of_z w32 (to_z w32 (of_z w32 x) -ℤ to_z w32 (m / 12))) -ℤ pos 1)) ≡ y -ℤ pos (m / 12 + 1)
before_word x y m e h few = omega (arith, signed_casts, e, h, few)

pub before_rule : (y : ℤ) (m : ℕ) → IsBetween (neg_ℤ (pos 2080000)) (pos 2080000) y → m ≤ 27050000 → IsRuleYear (y -ℤ pos (m / 12 + 1))
before_rule y m h few = omega (arith, signed, h, few)

pub forward_fits : (m between place : ℕ) → between ≤ 13 * (m / 12 + 1) → m ≤ 27050000 → place < 256 → Fits w32 (between + (place - 1))
forward_fits m between place most few small = omega (arith, most, few, small)

pub forward_within : (m between more : ℕ) → 12 * (m / 12 + 1) ≤ between → m ≤ between + more
forward_within m between more least = omega (arith, least)

pub forward_range : (there here : ℤ) (m between place : ℕ) → here ≡ there +ℤ pos (m / 12 + 1) → between ≤ 13 * (m / 12 + 1) → IsBetween (neg_ℤ (pos 2080000)) (pos 2080000) here → m ≤ 27050000 → place < 256
    → (pos 12 *ℤ there +ℤ pos (between + (place - 1) - m)) ≤ℤ pos 95000000
forward_range there here m between place e most h few small = omega (arith, signed, e, most, h, few, small)

-- months in the sequence of all months: the place of a month is counted from its year's first one
pub place_after : (there first place : ℤ) (month from m : ℕ) → place +ℤ pos 1 ≡ first +ℤ pos month → 1 ≤ month → from ≡ month → there ≡ first +ℤ pos (from - 1 + m) → there ≡ place +ℤ pos m
place_after there first place month from m e one same moved = omega (arith, signed, e, one, same, moved)

pub place_reached : (place there here : ℤ) (left m : ℕ) → place +ℤ pos 1 ≡ there +ℤ pos (left + 1) → there +ℤ pos left ≡ here +ℤ pos m → place ≡ here +ℤ pos m
place_reached place there here left m e moved = omega (arith, signed, e, moved)

pub place_before : (there place first : ℤ) (month m : ℕ) → place +ℤ pos 1 ≡ first +ℤ pos month → there +ℤ pos 1 ≡ first +ℤ pos (month - m) → m ≤ month → there ≡ place +ℤ neg_ℤ (pos m)
place_before there place first month m e f within = omega (arith, signed, e, f, within)

pub place_in_year_before : (there place first before : ℤ) (month from count m : ℕ) → place +ℤ pos 1 ≡ first +ℤ pos month → from ≡ month → first ≡ before +ℤ pos count → there +ℤ pos 1 ≡ before +ℤ pos (count - (m - from)) → from ≤ m → m - from ≤ count
    → there ≡ place +ℤ neg_ℤ (pos m)
place_in_year_before there place first before month from count m e same joins f out within = omega (arith, signed, e, same, joins, f, out, within)

pub place_forward : (there place first before : ℤ) (month from between m : ℕ) → place +ℤ pos 1 ≡ first +ℤ pos month → 1 ≤ month → from ≡ month → first ≡ before +ℤ pos between → there ≡ before +ℤ pos (between + (from - 1) - m)
    → m ≤ between + (from - 1) → there ≡ place +ℤ neg_ℤ (pos m)
place_forward there place first before month from between m e one same joins moved within = omega (arith, signed, e, one, same, joins, moved, within)

-- a year that may be named once a shift is added
pub shifted_near : (y shift : ℤ) → IsFieldYear (y +ℤ shift) → IsFieldYear shift → IsBetween (neg_ℤ (pos 2080000)) (pos 2080000) y
shifted_near y shift named small = omega (arith, signed, named, small)
