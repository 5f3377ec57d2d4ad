use Rattle.std.proofs.Common.{◌≡◌, to_z, of_z, w32, arith}
use Rattle.cal_days.proofs.Signed.{signed}
use Rattle.cal_days.proofs.CopticLemmas.{coptic_start-next}
use Rattle.cal_coptic.specs.laws.CopticLaws.{start_of_year-coptic, year_length-coptic}
use Rattle.cal_coptic.proofs.coptic.CopticYears.year_containing_rd.Goals as goal

pub returns-clause-first : goal.returns-clause-first
returns-clause-first c =
    let year = c.year_from_fixed.result in
    let same : to_z w32 (of_z w32 year) ≡ year = omega (arith, signed, c.year_from_fixed.ensures.range) in
    rw same (omega (arith, signed, start_of_year-coptic year, c.year_from_fixed.ensures.first))

pub returns-clause-last : goal.returns-clause-last
returns-clause-last c =
    let year = c.year_from_fixed.result in
    let same : to_z w32 (of_z w32 year) ≡ year = omega (arith, signed, c.year_from_fixed.ensures.range) in
    rw same (omega (arith, signed, start_of_year-coptic year, year_length-coptic year, coptic_start-next year, c.year_from_fixed.ensures.last))
