use Rattle.std.proofs.Common.{◌≡◌, ◌∙◌, pos, nat_abs, to_z, of_z, w32, ap, arith}
use Rattle.cal_days.specs.Division.{floor_mod}
use Rattle.cal_days.proofs.Signed.{signed}
use Rattle.cal_days.proofs.DivisionLemmas.{floor_mod-is, floor_parts}
use Rattle.cal_days.proofs.easter.year_in_metonic_cycle.Goals as goal

pub returns-clause-value : goal.returns-clause-value
returns-clause-value c =
    let same : to_z w32 (of_z w32 c.args.year) ≡ c.args.year = omega (arith, signed) in
    let rest : c.rem_euclid.result ≡ pos (floor_mod c.args.year 19) = rw same at c.rem_euclid.ensures.value ∙ floor_mod-is c.args.year 19 (omega arith) in
    let back : to_z w32 (of_z w32 c.rem_euclid.result) ≡ pos (floor_mod c.args.year 19) = omega (arith, signed, rest, floor_parts c.args.year 19) in
    ap nat_abs back
