use Rattle.std.proofs.Common.{◌≡◌, ℤ, pos, ◌-ℤ◌, to_z, of_z, w32, w64, subst, arith}
use Rattle.cal_days.specs.Easter.{IsSundayAfter, julian_april_19, julian_epact}
use Rattle.cal_days.proofs.Signed.{signed}
use Rattle.cal_days.proofs.julian.easter.Goals as goal

pub returns : goal.returns
returns c =
    let same : to_z w32 (of_z w32 c.args.year) ≡ c.args.year = omega (arith, signed) in
    let april : c.april_19.result ≡ julian_april_19 c.args.year = rw same at c.april_19.ensures.value in
    let epact : c.epact.result ≡ julian_epact c.args.year = rw same at c.epact.ensures.value in
    let moon : to_z w64 (of_z w64 (to_z w64 (of_z w64 c.april_19.result) -ℤ to_z w64 (of_z w64 c.from.result))) ≡ julian_april_19 c.args.year -ℤ pos (julian_epact c.args.year) = omega (arith, signed, c.april_19.ensures, c.epact.ensures, c.from.ensures, april, epact) in
    subst (λ (n : ℤ). IsSundayAfter n c.sunday_after.result) moon c.sunday_after.ensures
