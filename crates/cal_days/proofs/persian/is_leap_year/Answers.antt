use Rattle.std.proofs.Common.{◌≡◌, ◌∙◌, pos, ◌+ℤ◌, ◌*ℤ◌, to_z, of_z, w32, arith}
use Rattle.cal_days.specs.Division.{floor_mod}
use Rattle.cal_days.proofs.Signed.{signed}
use Rattle.cal_days.proofs.DivisionLemmas.{floor_mod-is, floor_parts}
use Rattle.cal_days.proofs.persian.is_leap_year.Goals as goal

pub returns : goal.returns
returns c =
    let number : to_z w32 (of_z w32 (to_z w32 (of_z w32 (pos 25 *ℤ to_z w32 (of_z w32 c.args.year))) +ℤ pos 11)) ≡ pos 25 *ℤ c.args.year +ℤ pos 11 = omega (arith, signed, c.requires) in
    let rest : c.rem_euclid.result ≡ pos (floor_mod (pos 25 *ℤ c.args.year +ℤ pos 11) 33) = rw number at c.rem_euclid.ensures.value ∙ floor_mod-is (pos 25 *ℤ c.args.year +ℤ pos 11) 33 (omega arith) in
    let same : to_z w32 (of_z w32 c.rem_euclid.result) ≡ pos (floor_mod (pos 25 *ℤ c.args.year +ℤ pos 11) 33) = omega (arith, signed, rest, floor_parts (pos 25 *ℤ c.args.year +ℤ pos 11) 33) in
    rw same (λ h. h, λ h. h)
