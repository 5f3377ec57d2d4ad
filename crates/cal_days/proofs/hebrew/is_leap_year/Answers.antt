use Rattle.std.proofs.Common.{◌≡◌, pos, ◌+ℤ◌, ◌*ℤ◌, to_z, of_z, w64, ◌∙◌, arith}
use Rattle.cal_days.specs.Division.{floor_mod}
use Rattle.std.proofs.lemmas.Bool.Decides.{nat_tests}
use Rattle.cal_days.proofs.Signed.{signed}
use Rattle.cal_days.proofs.DivisionLemmas.{floor_parts, floor_mod-is}
use Rattle.cal_days.proofs.hebrew.is_leap_year.Goals as goal

rest : (c : goal.After-rem_euclid) → c.rem_euclid.result ≡ pos (floor_mod (pos 7 *ℤ c.args.year +ℤ pos 1) 19)
rest c =
    let arg : to_z w64 (of_z w64 (to_z w64 (of_z w64 (pos 7 *ℤ to_z w64 (of_z w64 c.from.result))) +ℤ pos 1)) ≡ pos 7 *ℤ c.args.year +ℤ pos 1 = omega (arith, signed, c.from.ensures) in
    rw arg at c.rem_euclid.ensures.value ∙ floor_mod-is (pos 7 *ℤ c.args.year +ℤ pos 1) 19 (omega arith)

pub returns : goal.returns
returns c = let e = rest c in grind (arith, signed, nat_tests, floor_parts (pos 7 *ℤ c.args.year +ℤ pos 1) 19)
