use Rattle.std.proofs.Common.{◌≡◌, ◌∙◌, pos, to_z, of_z, w64, arith}
use Rattle.cal_days.specs.Division.{floor_mod}
use Rattle.cal_days.proofs.Signed.{signed}
use Rattle.cal_days.proofs.DivisionLemmas.{floor_mod-is, floor_parts}
use Rattle.cal_days.proofs.EasterLemmas.{sunday_found}
use Rattle.cal_days.proofs.easter.sunday_after.Goals as goal

pub returns : goal.returns
returns c =
    let same : to_z w64 (of_z w64 c.args.day) ≡ c.args.day = omega (arith, signed) in
    let rest : c.rem_euclid.result ≡ pos (floor_mod c.args.day 7) = rw same at c.rem_euclid.ensures.value ∙ floor_mod-is c.args.day 7 (omega arith) in
    sunday_found c.args.day c.new.result (omega (arith, signed, c.requires, c.new.ensures, rest, floor_parts c.args.day 7))
