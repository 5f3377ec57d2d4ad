use Rattle.std.proofs.Common.{◌≡◌, to_z, of_z, w32, arith}
use Rattle.cal_days.proofs.Signed.{signed}
use Rattle.cal_hebrew.specs.laws.HebrewMonths.{start_of_year-hebrew, year_length-hebrew}
use Rattle.cal_hebrew.specs.laws.YearLengths.{given-known}
use Rattle.cal_hebrew.proofs.hebrew.HebrewYears.year_containing_rd.Goals as goal

pub returns-clause-first : goal.returns-clause-first
returns-clause-first c =
    let year = c.day_in_year_from_fixed-found.result.year in
    let same : to_z w32 (of_z w32 year) ≡ year = omega (arith, signed, c.day_in_year_from_fixed-found.ensures.range) in
    rw same (omega (arith, signed, start_of_year-hebrew year, c.day_in_year_from_fixed-found.ensures.day))

pub returns-clause-last : goal.returns-clause-last
returns-clause-last c =
    let found = c.day_in_year_from_fixed-found in
    let year = found.result.year in
    let same : to_z w32 (of_z w32 year) ≡ year = omega (arith, signed, c.day_in_year_from_fixed-found.ensures.range) in
    rw same (omega (arith, signed, start_of_year-hebrew year, year_length-hebrew year, c.day_in_year_from_fixed-found.ensures.day, c.day_in_year_from_fixed-found.ensures.length, c.day_in_year_from_fixed-found.ensures.within))

pub invariant_of-result : goal.invariant_of-result
invariant_of-result c = let found = c.day_in_year_from_fixed-found in record { known = given-known found.result.year found.result.year_length found.ensures.length }
