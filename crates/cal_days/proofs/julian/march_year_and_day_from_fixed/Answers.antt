use Rattle.std.proofs.Common.{◌≡◌, ◌+◌, ◌*◌, pos, ◌+ℤ◌, ◌-ℤ◌, to_z, of_z, w32, arith}
use Rattle.cal_days.proofs.Signed.{signed_casts}
use Rattle.cal_days.proofs.JulianLemmas.{julian_march_days-counted}
use Rattle.cal_days.proofs.julian.march_year_and_day_from_fixed.Goals as goal

pub returns-clause-day : goal.returns-clause-day
returns-clause-day c =
    let years = c.march_year-year.result.0 in
    let year = to_z w32 (of_z w32 (to_z w32 years -ℤ pos 1000000)) in
    let counted : pos years ≡ year +ℤ pos (4 * 250000) = omega (arith, signed_casts, c.march_year-year.ensures.year) in
    omega (arith, signed_casts, c.march_year-year.ensures, c.days_since_march.ensures, julian_march_days-counted year years 250000 counted)

pub returns-clause-within : goal.returns-clause-within
returns-clause-within c =
    let years = c.march_year-year.result.0 in
    let year = to_z w32 (of_z w32 (to_z w32 years -ℤ pos 1000000)) in
    let counted : pos (years + 1) ≡ year +ℤ pos 1 +ℤ pos (4 * 250000) = omega (arith, signed_casts, c.march_year-year.ensures.year) in
    omega (arith, signed_casts, c.march_year-year.ensures, c.days_since_march.ensures, julian_march_days-counted (year +ℤ pos 1) (years + 1) 250000 counted)
