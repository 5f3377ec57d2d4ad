use Rattle.std.proofs.Common.{◌≡◌, ◌+◌, ◌*◌, ◌/◌, refl, ap, ℤ, pos, negsuc, neg_ℤ, ◌+ℤ◌, ◌*ℤ◌, ◌≤ℤ◌, unsigned_abs, to_z, of_z, w32, arith}
use Rattle.std.specs.Int.Signed.{quot_z}
use Rattle.cal_days.specs.Day.{IsRuleYear}
use Rattle.cal_days.proofs.Signed.{signed}
use Rattle.cal_east_asian.specs.laws.EastAsianStartLaws.{total-least}
use Rattle.cal_east_asian.proofs.east_asian_traditional.EastAsianTraditionalYearShapes.min_months_from.Goals as goal

-- a third of a number, rounded toward 0, with its sign
by_third : {P : Type 0} (z : ℤ) → (pos 0 ≤ℤ z → quot_z z (pos 3) ≡ pos (unsigned_abs z / 3) → P) → (z ≤ℤ pos 0 → quot_z z (pos 3) ≡ neg_ℤ (pos (unsigned_abs z / 3)) → P) → P
by_third (pos a) up down = up (omega (arith, signed)) refl
by_third (negsuc a) up down = down (omega (arith, signed)) refl

-- so the code's sum is 12 months a year and one in three years, with the sign of the years
size : (z t : ℤ) → IsRuleYear z → t ≡ quot_z z (pos 3) → unsigned_abs (to_z w32 (of_z w32 (to_z w32 (of_z w32 (pos 12 *ℤ z)) +ℤ to_z w32 (of_z w32 t)))) ≡ 12 * unsigned_abs z + unsigned_abs z / 3
size z t rule e =
    by_third {P = unsigned_abs (to_z w32 (of_z w32 (to_z w32 (of_z w32 (pos 12 *ℤ z)) +ℤ to_z w32 (of_z w32 t)))) ≡ 12 * unsigned_abs z + unsigned_abs z / 3} z
    (λ up third. omega (arith, signed, up, third, e, rule))
    (λ down third. omega (arith, signed, down, third, e, rule))

pub returns-clause-least : goal.returns-clause-least
returns-clause-least g c y first last =
    let years = unsigned_abs c.args.count in
    let kept : to_z w32 (of_z w32 c.args.count) ≡ c.args.count = omega (arith, signed, c.requires.count) in
    let least = total-least (g.R.Rules.year_of c.args.self.now.0) (g.met.R.Rules.lawful c.args.self.now.0) y years first.0 (omega (arith, signed, last.1)) in
    let third = ap (λ (z : ℤ). quot_z z (pos 3)) kept in
    rw kept (omega (arith, least, size c.args.count (quot_z c.args.count (pos 3)) c.requires.count refl))
