use Rattle.std.proofs.Common.{◌≡◌, ◌∙◌, pos, ◌+ℤ◌, to_z, of_z, w64, arith, ap, unsigned_abs}
use Rattle.std.specs.Int.{int_rem_euclid}
use Rattle.cal_days.specs.Day.{IsBetween}
use Rattle.cal_days.specs.Division.{floor_mod}
use Rattle.cal_days.proofs.Signed.{signed}
use Rattle.cal_days.proofs.DivisionLemmas.{floor_mod-is}
use Rattle.cal_holidays.specs.Observing.{move_on}
use Rattle.cal_holidays.proofs.ObservingLemmas.{move-small}
use Rattle.cal_holidays.proofs.moves.Moves.moved.Goals as goal

pub returns : goal.returns
returns c =
    let own = c.args.own in
    let moves = c.args.self.now.days in
    let held : to_z w64 (of_z w64 c.to_i64_date-day.result) ≡ own = omega (arith, signed, c.to_i64_date-day.ensures.value, c.requires.valid) in
    let rest : c.rem_euclid.result ≡ pos (floor_mod own 7) = c.rem_euclid.ensures.value ∙ (ap (λ z. int_rem_euclid z (pos 7)) held ∙ floor_mod-is own 7 (omega arith)) in
    let back : to_z w64 (of_z w64 c.rem_euclid.result) ≡ pos (floor_mod own 7) = omega (arith, signed, rest, c.rem_euclid.ensures.upper_bound) in
    let by : c.on.result ≡ move_on moves (floor_mod own 7) = c.on.ensures ∙ ap (λ z. move_on moves (unsigned_abs z)) back in
    let small = move-small moves c.requires.proper (floor_mod own 7) in
    omega (arith, signed, held, by, small, c.requires.valid)
