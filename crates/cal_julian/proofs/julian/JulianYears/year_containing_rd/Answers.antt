use Rattle.std.proofs.Common.{◌≡◌, refl, to_z, of_z, w32, arith}
use Rattle.cal_days.proofs.Signed.{signed}
use Rattle.cal_days.proofs.JulianLemmas.{julian_start-next}
use Rattle.cal_julian.specs.laws.JulianLaws.{start_of_year-julian, year_length-julian}
use Rattle.cal_julian.proofs.julian.JulianYears.year_containing_rd.Goals as goal

pub returns-clause-first : goal.returns-clause-first
returns-clause-first c =
    let year = c.year_from_fixed.result in
    let same : to_z w32 (of_z w32 year) ≡ year = omega (arith, signed, c.year_from_fixed.ensures.range) in
    rw same (omega (arith, signed, start_of_year-julian year, c.year_from_fixed.ensures.first))

pub returns-clause-last : goal.returns-clause-last
returns-clause-last c =
    let year = c.year_from_fixed.result in
    let same : to_z w32 (of_z w32 year) ≡ year = omega (arith, signed, c.year_from_fixed.ensures.range) in
    rw same (omega (arith, signed, start_of_year-julian year, year_length-julian year, julian_start-next year, c.year_from_fixed.ensures.last))

pub returns-clause-year : goal.returns-clause-year
returns-clause-year c =
    let range = c.year_from_fixed.ensures.range in
    record { same = refl; range = (omega (arith, signed, range), omega (arith, signed, range)) }
