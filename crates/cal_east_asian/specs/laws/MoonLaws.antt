-- Days of moments, and the even sequences of moons and terms.
use Rattle.std.proofs.Common.{◌≡◌, ℕ, ◌+◌, ◌*◌, arith, ℤ, pos, ◌+ℤ◌, ◌-ℤ◌, ◌*ℤ◌, ◌<ℤ◌, ◌≤ℤ◌}
use Rattle.std.proofs.lemmas.Int.{by_lt_z}
use Rattle.cal_days.proofs.Signed.{signed}
use Rattle.cal_days.proofs.DivisionLemmas.{floor_parts}
use Rattle.cal_east_asian.specs.MeanYears.{day, moon, term, last_moon, IsLastMoon}

-- a moment on an earlier day, or the same, is less than a day later
pub day-near : (a b : ℤ) → day a ≤ℤ day b → a <ℤ (b +ℤ pos 86400000)
day-near a b h = omega (arith, signed, floor_parts a 86400000, floor_parts b 86400000)

pub day-order : (a b : ℤ) → a ≤ℤ b → day a ≤ℤ day b
day-order a b h = omega (arith, signed, floor_parts a 86400000, floor_parts b 86400000)

pub day-later : (a b : ℤ) → day b <ℤ day a → b <ℤ a
day-later a b h = omega (arith, signed, floor_parts a 86400000, floor_parts b 86400000)

-- a moon on or before a term's day is followed by a moon on or before the next term's day
pub day-step : (a b c d : ℤ) → c ≡ a +ℤ pos 2551442876 → d ≡ b +ℤ pos 2629746000 → day a ≤ℤ day b → day c ≤ℤ day d
day-step a b c d e f h = omega (arith, signed, floor_parts a 86400000, floor_parts b 86400000, floor_parts c 86400000, floor_parts d 86400000)

-- months have 29 or 30 days
pub day-month : (a c : ℤ) → c ≡ a +ℤ pos 2551442876 → ((day a +ℤ pos 29) ≤ℤ day c) × (day c ≤ℤ (day a +ℤ pos 30))
day-month a c e = omega (arith, signed, floor_parts a 86400000, floor_parts c 86400000)

-- the linear forms
pub moon-more : (o k m : ℤ) (n : ℕ) → m ≡ k +ℤ pos n → moon o m ≡ moon o k +ℤ pos (2551442876 * n)
unfolding moon
moon-more o k m n e = omega (arith, signed)

pub term-more : (o y : ℤ) (j n : ℕ) → term o y (j + n) ≡ term o y j +ℤ pos (2629746000 * n)
unfolding term
term-more o y j n = omega (arith, signed)

pub term-next_year : (o y : ℤ) (j : ℕ) → term o (y +ℤ pos 1) j ≡ term o y (j + 12)
unfolding term
term-next_year o y j = omega (arith, signed)

-- the last moon on or before a day, and only it
pub last_moon-within : (o d : ℤ) → day (moon o (last_moon o d)) ≤ℤ d
unfolding last_moon moon
last_moon-within o d = omega (arith, signed, floor_parts (pos 86400000 *ℤ (d +ℤ pos 1) -ℤ pos 1 -ℤ moon o (pos 0)) 2551442876, floor_parts (moon o (last_moon o d)) 86400000)

pub last_moon-most : (o d : ℤ) → d <ℤ day (moon o (last_moon o d +ℤ pos 1))
unfolding last_moon moon
last_moon-most o d = omega (arith, signed, floor_parts (pos 86400000 *ℤ (d +ℤ pos 1) -ℤ pos 1 -ℤ moon o (pos 0)) 2551442876, floor_parts (moon o (last_moon o d +ℤ pos 1)) 86400000)

pub last_moon-unique : (o d k : ℤ) → day (moon o k) ≤ℤ d → d <ℤ day (moon o (k +ℤ pos 1)) → k ≡ last_moon o d
unfolding last_moon moon
last_moon-unique o d k h l = omega (arith, signed, floor_parts (pos 86400000 *ℤ (d +ℤ pos 1) -ℤ pos 1 -ℤ moon o (pos 0)) 2551442876, floor_parts (moon o k) 86400000, floor_parts (moon o (k +ℤ pos 1)) 86400000)

pub moon-later : (o k m : ℤ) → k ≤ℤ m → moon o k ≤ℤ moon o m
unfolding moon
moon-later o k m h = omega (arith, signed)

-- it is the greatest one
pub last_moon-greatest : (o d : ℤ) → IsLastMoon o d (last_moon o d)
last_moon-greatest o d m = (
  λ within. by_lt_z {P = m ≤ℤ last_moon o d} (last_moon o d) m
      (λ lt. absurd (omega (arith, signed, within, last_moon-most o d, day-order (moon o (last_moon o d +ℤ pos 1)) (moon o m) (moon-later o (last_moon o d +ℤ pos 1) m (omega (arith, signed, lt))))))
      (λ le. le),
  λ before. omega (arith, signed, last_moon-within o d, day-order (moon o m) (moon o (last_moon o d)) (moon-later o m (last_moon o d) before)),
)
