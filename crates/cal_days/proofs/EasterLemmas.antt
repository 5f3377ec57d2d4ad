-- The days of Easter: the Sunday after a day, and the numbers from which the full moon is counted.
use Rattle.std.proofs.Common.{◌≡◌, ℕ, ◌<◌, arith, ℤ, pos, neg_ℤ, ◌+ℤ◌, ◌-ℤ◌, ◌*ℤ◌}
use Rattle.cal_days.specs.Day.{IsBetween}
use Rattle.cal_days.specs.Division.{floor_div, floor_mod}
use Rattle.cal_days.specs.Easter.{IsSundayAfter}
use Rattle.cal_days.proofs.Signed.{signed}
use Rattle.cal_days.proofs.DivisionLemmas.{floor_parts}

-- a week after a day, less the days since the last Sunday
pub sunday_found : (day sunday : ℤ) → sunday ≡ day +ℤ pos 7 -ℤ pos (floor_mod day 7) → IsSundayAfter day sunday
sunday_found day sunday e =
    let rest = floor_parts day 7 (omega arith) in
    (omega (arith, signed, rest, floor_parts sunday 7), omega (arith, signed, rest), omega (arith, signed, rest))

-- the terms of the epact, of a century of a 32-bit year
pub epact_terms-bounds : (m : ℕ) (c : ℤ) → m < 19 → IsBetween (neg_ℤ (pos 21474836)) (pos 21474837) c
    → IsBetween (neg_ℤ (pos 16106128)) (pos 16106128) (floor_div (pos 3 *ℤ c) 4) × IsBetween (neg_ℤ (pos 6871950)) (pos 6871950) (floor_div (pos 5 +ℤ pos 8 *ℤ c) 25)
epact_terms-bounds m c small range =
    let dropped = floor_parts (pos 3 *ℤ c) 4 (omega arith) in
    let gained = floor_parts (pos 5 +ℤ pos 8 *ℤ c) 25 (omega arith) in
    ((omega (arith, signed, range, dropped), omega (arith, signed, range, dropped)), (omega (arith, signed, range, gained), omega (arith, signed, range, gained)))
