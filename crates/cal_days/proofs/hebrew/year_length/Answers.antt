use Rattle.std.proofs.Common.{◌≡◌, pos, ◌+ℤ◌, to_z, of_z, w32, w64, arith}
use Rattle.cal_days.specs.Hebrew.{hebrew_start, hebrew_year_length}
use Rattle.cal_days.proofs.Signed.{signed_casts}
use Rattle.cal_days.proofs.HebrewLemmas.{hebrew_start-next, hebrew_year_length-is, hebrew_year_length-most}
use Rattle.cal_days.proofs.hebrew.year_length.Goals as goal

value : (c : goal.After-since) → to_z w64 (of_z w64 c.since.result) ≡ pos (hebrew_year_length c.args.year)
value c =
    let here : to_z w32 (of_z w32 c.args.year) ≡ c.args.year = omega (arith, signed_casts) in
    let after : to_z w32 (of_z w32 (to_z w32 (of_z w32 c.args.year) +ℤ pos 1)) ≡ c.args.year +ℤ pos 1 = omega (arith, signed_casts, c.requires) in
    let this : c.first_day-2.result ≡ hebrew_start c.args.year = rw here at c.first_day-2.ensures in
    let next : c.first_day.result ≡ hebrew_start (c.args.year +ℤ pos 1) = rw after at c.first_day.ensures in
    omega (arith, signed_casts, this, next, c.since.ensures, hebrew_start-next c.args.year, hebrew_year_length-most c.args.year)

pub overflow_cast-result : goal.overflow_cast-result
overflow_cast-result c = (omega (arith, signed_casts, value c), omega (arith, signed_casts, value c, hebrew_year_length-most c.args.year))

pub returns-clause-value : goal.returns-clause-value
returns-clause-value c = omega (arith, signed_casts, value c)

pub returns-clause-one_of_six : goal.returns-clause-one_of_six
returns-clause-one_of_six c = let e = returns-clause-value c in rw e (hebrew_year_length-is c.args.year)
