use Rattle.std.proofs.Common.{◌≡◌, to_z, of_z, w32, arith}
use Rattle.cal_days.proofs.Signed.{signed}
use Rattle.cal_julian.specs.PersianCorrected.{corrected_years}
use Rattle.cal_julian.specs.laws.PersianLaws.{start_of_year-persian, year_length-persian}
use Rattle.cal_julian.specs.laws.PersianRuleLaws.{persian_new_year-next}
use Rattle.cal_julian.proofs.persian.PersianYears.year_containing_rd.Goals as goal

pub returns-clause-first : goal.returns-clause-first
returns-clause-first c =
    let years = corrected_years c.args.self.now in
    let known = c.args.self.now.corrections.known in
    let found = c.year_and_day_from_fixed in
    let year = found.result.0 in
    let same : to_z w32 (of_z w32 year) ≡ year = omega (arith, signed, found.ensures.range) in
    rw same (omega (arith, signed, start_of_year-persian years known year, found.ensures.day))

pub returns-clause-last : goal.returns-clause-last
returns-clause-last c =
    let years = corrected_years c.args.self.now in
    let known = c.args.self.now.corrections.known in
    let found = c.year_and_day_from_fixed in
    let year = found.result.0 in
    let same : to_z w32 (of_z w32 year) ≡ year = omega (arith, signed, found.ensures.range) in
    rw same (omega (arith, signed, start_of_year-persian years known year, year_length-persian years year, persian_new_year-next years known year, found.ensures.within))
