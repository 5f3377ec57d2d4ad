use Rattle.std.proofs.Common.{◌≡◌, ◌∙◌, pos, ◌+ℤ◌, ◌*ℤ◌, to_z, of_z, w64, arith}
use Rattle.cal_days.specs.Division.{floor_mod}
use Rattle.cal_days.proofs.Signed.{signed}
use Rattle.cal_days.proofs.DivisionLemmas.{floor_mod-is, floor_parts}
use Rattle.cal_days.proofs.islamic.is_leap_year.Goals as goal

pub returns : goal.returns
returns c =
    let number : to_z w64 (of_z w64 (to_z w64 (of_z w64 (pos 11 *ℤ to_z w64 (of_z w64 c.from.result))) +ℤ pos 14)) ≡ pos 11 *ℤ c.args.year +ℤ pos 14 = omega (arith, signed) in
    let rest : c.rem_euclid.result ≡ pos (floor_mod (pos 11 *ℤ c.args.year +ℤ pos 14) 30) = rw number at c.rem_euclid.ensures.value ∙ floor_mod-is (pos 11 *ℤ c.args.year +ℤ pos 14) 30 (omega arith) in
    let same : to_z w64 (of_z w64 c.rem_euclid.result) ≡ pos (floor_mod (pos 11 *ℤ c.args.year +ℤ pos 14) 30) = omega (arith, signed, rest, floor_parts (pos 11 *ℤ c.args.year +ℤ pos 14) 30) in
    rw same (λ h. h, λ h. h)
