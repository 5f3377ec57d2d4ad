-- The mean new year beside January 19.
use Rattle.std.proofs.Common.{◌+◌, refl, arith, ℤ, pos, ◌+ℤ◌, ◌-ℤ◌, ◌≤ℤ◌}
use Rattle.cal_days.proofs.Signed.{signed}
use Rattle.cal_days.proofs.DivisionLemmas.{floor_parts}
use Rattle.cal_days.specs.Gregorian.{gregorian_start, leap_days_through}
use Rattle.cal_east_asian.specs.MeanYears.{day, moon, term, last_moon, new_year}
use Rattle.cal_east_asian.specs.laws.MoonLaws.{day-month, moon-more, last_moon-within, last_moon-most}
use Rattle.cal_east_asian.specs.laws.LeapMonthLaws.{new_year-is}

-- term 2 of a year falls 32 to 34 days after January 19
pub term-near : (o : ℤ) (y : ℤ) → pos 27940000 ≤ℤ o → o ≤ℤ pos 32400000 → ((gregorian_start y +ℤ pos (18 + 32)) ≤ℤ day (term o y 2)) × (day (term o y 2) ≤ℤ (gregorian_start y +ℤ pos (18 + 34)))
unfolding gregorian_start leap_days_through term
term-near o y low high = omega (arith, signed, floor_parts (y -ℤ pos 1) 4, floor_parts (y -ℤ pos 1) 100, floor_parts (y -ℤ pos 1) 400, floor_parts (term o y 2) 86400000)

-- and the year begins at most 29 days before it
pub new_year-near_term : (o y : ℤ) → (day (term o y 2) ≤ℤ (new_year o y +ℤ pos 29)) × (new_year o y ≤ℤ day (term o y 2))
new_year-near_term o y =
    let k = last_moon o (day (term o y 2)) in
    omega (arith, signed, new_year-is o y, last_moon-within o (day (term o y 2)), last_moon-most o (day (term o y 2)), day-month (moon o k) (moon o (k +ℤ pos 1)) (moon-more o k (k +ℤ pos 1) 1 refl))

pub new_year-near : (o y : ℤ) → pos 27940000 ≤ℤ o → o ≤ℤ pos 32400000 → ((gregorian_start y +ℤ pos 18) ≤ℤ new_year o y) × (new_year o y ≤ℤ (gregorian_start y +ℤ pos (18 + 34)))
new_year-near o y low high = omega (arith, signed, term-near o y low high, new_year-near_term o y)
