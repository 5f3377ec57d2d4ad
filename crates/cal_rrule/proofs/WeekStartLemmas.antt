-- The first day of a week.
use Rattle.std.proofs.Common.{◌≡◌, ◌∙◌, ℕ, ℤ, pos, ◌-ℤ◌, refl, arith}
use Rattle.std.specs.Int.{int_rem_euclid}
use Rattle.cal_days.specs.Division.{floor_mod}
use Rattle.cal_days.proofs.DivisionLemmas.{floor_mod-is, floor_parts}
use Rattle.cal_days.proofs.Signed.{signed}
use Rattle.cal_types.specs.Weekday.{days_since_sunday, weekday_number}
use Rattle.cal_types.specs.declared.weekday.Weekday.{Weekday}
use Rattle.cal_types.specs.declared.weekday.Weekday.TheVariants.{Monday, Tuesday, Wednesday, Thursday, Friday, Saturday, Sunday}
use Rattle.cal_rrule.specs.Weeks.{IsWeekOf}

-- a weekday by its number
numbered : (day : Weekday) → floor_mod (pos (weekday_number day)) 7 ≡ days_since_sunday day
unfolding floor_mod
numbered Monday = refl
numbered Tuesday = refl
numbered Wednesday = refl
numbered Thursday = refl
numbered Friday = refl
numbered Saturday = refl
numbered Sunday = refl

pub week-of : (start : Weekday) (n w : ℤ) (s : ℕ) → s ≡ weekday_number start →
    w ≡ n -ℤ int_rem_euclid (n -ℤ pos s) (pos 7) → IsWeekOf start n w
week-of start n w s is at =
    let rest : int_rem_euclid (n -ℤ pos s) (pos 7) ≡ pos (floor_mod (n -ℤ pos s) 7) = floor_mod-is (n -ℤ pos s) 7 (omega arith) in
    let parts = floor_parts (n -ℤ pos s) 7 (omega arith) in
    let own = floor_parts w 7 (omega arith) in
    let first = floor_parts (pos (weekday_number start)) 7 (omega arith) in
    let same : floor_mod w 7 ≡ floor_mod (pos (weekday_number start)) 7 = omega (arith, signed, at, rest, parts, own, first, is) in
    (same ∙ numbered start, omega (arith, signed, at, rest), omega (arith, signed, at, rest, parts))
