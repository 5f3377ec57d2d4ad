use Rattle.std.proofs.Common.{◌≡◌, ◌*◌, ◌/◌, nat_abs, pos, ◌+ℤ◌, ◌-ℤ◌, ◌*ℤ◌, ◌≤ℤ◌, ◌<ℤ◌, to_z, of_z, w32, w64, arith}
use Rattle.cal_days.specs.Division.{floor_div}
use Rattle.cal_days.specs.Hebrew.{hebrew_start}
use Rattle.cal_days.proofs.Signed.{signed_casts}
use Rattle.cal_days.proofs.HebrewLemmas.{hebrew_start-near, near-counted}
use Rattle.cal_days.proofs.hebrew.near_year.Goals as goal

near : (c : goal.After-to_i64_date) → let days = nat_abs (to_z w64 (of_z w64 (to_z w64 (of_z w64 c.to_i64_date.result) +ℤ pos 505028741))) in let year = to_z w32 (of_z w32 (to_z w32 (98496 * days / 35975351) -ℤ pos 1378944)) in (hebrew_start (year -ℤ pos 1) ≤ℤ c.args.rd) × (c.args.rd <ℤ hebrew_start (year +ℤ pos 1))
near c =
    let days = nat_abs (to_z w64 (of_z w64 (to_z w64 (of_z w64 c.to_i64_date.result) +ℤ pos 505028741))) in
    let counted : pos days ≡ c.args.rd +ℤ pos 505028741 = omega (arith, signed_casts, c.to_i64_date.ensures.value, c.requires) in
    let years = near-counted c.args.rd days counted in
    let same : to_z w32 (of_z w32 (to_z w32 (98496 * days / 35975351) -ℤ pos 1378944)) ≡ floor_div (pos 98496 *ℤ (c.args.rd +ℤ pos 1373827)) 35975351 = omega (arith, signed_casts, years, counted, c.requires) in
    hebrew_start-near c.args.rd (to_z w32 (of_z w32 (to_z w32 (98496 * days / 35975351) -ℤ pos 1378944))) same

pub returns-clause-low : goal.returns-clause-low
returns-clause-low c = (near c).0

pub returns-clause-high : goal.returns-clause-high
returns-clause-high c = (near c).1
