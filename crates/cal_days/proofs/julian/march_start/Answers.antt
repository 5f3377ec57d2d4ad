use Rattle.std.proofs.Common.{◌≡◌, ◌*◌, pos, ◌+ℤ◌, nat_abs, to_z, of_z, w32, arith}
use Rattle.cal_days.proofs.Signed.{signed_casts}
use Rattle.cal_days.proofs.JulianLemmas.{julian_march_days-counted}
use Rattle.cal_days.proofs.julian.march_start.Goals as goal

pub returns : goal.returns
returns c =
    let years = nat_abs (to_z w32 (of_z w32 (to_z w32 (of_z w32 c.args.year) +ℤ pos 8400000))) in
    let counted : pos years ≡ c.args.year +ℤ pos (4 * 2100000) = omega (arith, signed_casts, c.requires) in
    omega (arith, signed_casts, c.days_of_march_years-days.ensures, julian_march_days-counted c.args.year years 2100000 counted)
