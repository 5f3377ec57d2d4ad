use Rattle.std.proofs.Common.{◌≡◌, ◌∙◌, ap, arith, pos, ◌*ℤ◌, ◌-ℤ◌, to_z, of_z, w64}
use Rattle.cal_days.proofs.Signed.{signed_casts}
use Rattle.cal_days.proofs.DivisionLemmas.{floor_parts}
use Rattle.cal_east_asian.specs.MeanYears.{day}
use Rattle.cal_east_asian.proofs.mean_moons.day_and_time.Goals as goal

pub returns-clause-time : goal.returns-clause-time
returns-clause-time c =
    let m = c.args.moment in
    let d = c.day_of-day.result in
    let sm : to_z w64 (of_z w64 m) ≡ m = omega (arith, signed_casts, c.requires) in
    let is : d ≡ day m = c.day_of-day.ensures.exact ∙ ap (λ t. day t) sm in
    let sd : to_z w64 (of_z w64 d) ≡ d = omega (arith, signed_casts, sm, c.requires, c.day_of-day.ensures.first, c.day_of-day.ensures.last) in
    let start : to_z w64 (of_z w64 (pos 86400000 *ℤ to_z w64 (of_z w64 d))) ≡ pos 86400000 *ℤ d = omega (arith, signed_casts, sm, sd, c.requires, c.day_of-day.ensures.first, c.day_of-day.ensures.last) in
    let rest : to_z w64 (of_z w64 (to_z w64 (of_z w64 m) -ℤ to_z w64 (of_z w64 (pos 86400000 *ℤ to_z w64 (of_z w64 d))))) ≡ m -ℤ pos 86400000 *ℤ d = omega (arith, signed_casts, sm, start, c.day_of-day.ensures.first, c.day_of-day.ensures.last) in
    omega (arith, signed_casts, rest, is, floor_parts m 86400000)
