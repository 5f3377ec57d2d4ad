use Rattle.std.proofs.Common.{◌≡◌, ◌∙◌, pos, ◌-ℤ◌, to_z, of_z, w64, arith, ap}
use Rattle.std.specs.Int.{int_rem_euclid}
use Rattle.cal_days.specs.Division.{floor_mod}
use Rattle.cal_days.proofs.Signed.{signed}
use Rattle.cal_days.proofs.DivisionLemmas.{floor_mod-is, floor_parts}
use Rattle.cal_holidays.proofs.weekdays.on_or_before.Goals as goal

pub returns : goal.returns
returns c =
    let x = c.args.day -ℤ c.args.sunday in
    let arg : to_z w64 (of_z w64 (to_z w64 (of_z w64 c.args.day) -ℤ to_z w64 (of_z w64 c.args.sunday))) ≡ x = omega (arith, signed, c.requires.near, c.requires.sunday) in
    let rest : c.rem_euclid.result ≡ pos (floor_mod x 7) = c.rem_euclid.ensures.value ∙ (ap (λ z. int_rem_euclid z (pos 7)) arg ∙ floor_mod-is x 7 (omega arith)) in
    let few = (floor_parts x 7 (omega arith)).1 in
    let back : to_z w64 (of_z w64 c.rem_euclid.result) ≡ pos (floor_mod x 7) = omega (arith, signed, rest, few) in
    let begin : to_z w64 (of_z w64 c.args.day) ≡ c.args.day = omega (arith, signed, c.requires.near) in
    omega (arith, signed, back, begin, few, c.requires.near)
