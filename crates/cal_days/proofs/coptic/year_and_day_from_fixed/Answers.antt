use Rattle.std.proofs.Common.{◌≡◌, ◌+◌, pos, ◌+ℤ◌, ◌-ℤ◌, to_z, of_z, w32, arith}
use Rattle.cal_days.proofs.Signed.{signed_casts}
use Rattle.cal_days.proofs.CopticLemmas.{coptic_days-counted}
use Rattle.cal_days.proofs.coptic.year_and_day_from_fixed.Goals as goal

pub returns-clause-day : goal.returns-clause-day
returns-clause-day c =
    let years = c.counted_year-year.result.0 in
    let year = to_z w32 (of_z w32 (to_z w32 (of_z w32 (to_z w32 years -ℤ pos 1001000)) +ℤ pos 1)) in
    let counted : pos years ≡ year +ℤ pos 1000999 = omega (arith, signed_casts, c.counted_year-year.ensures.year) in
    omega (arith, signed_casts, c.requires, c.to_i64_date.ensures, c.counted_year-year.ensures, coptic_days-counted year years counted)

pub returns-clause-within : goal.returns-clause-within
returns-clause-within c =
    let years = c.counted_year-year.result.0 in
    let year = to_z w32 (of_z w32 (to_z w32 (of_z w32 (to_z w32 years -ℤ pos 1001000)) +ℤ pos 1)) in
    let counted : pos (years + 1) ≡ year +ℤ pos 1 +ℤ pos 1000999 = omega (arith, signed_casts, c.counted_year-year.ensures.year) in
    omega (arith, signed_casts, c.requires, c.to_i64_date.ensures, c.counted_year-year.ensures, coptic_days-counted (year +ℤ pos 1) (years + 1) counted)
