use Rattle.std.proofs.Common.{◌≡◌, to_z, of_z, w32, arith}
use Rattle.cal_days.proofs.Signed.{signed}
use Rattle.cal_types.specs.CalendarList.{date}
use Rattle.cal_types.proofs.ListLemmas.{date-in_year}
use Rattle.cal_julian.specs.IndianList.{indian_list}
use Rattle.cal_julian.proofs.indian.IndianYears.year_containing_rd.Goals as goal

pub returns-clause-first : goal.returns-clause-first
returns-clause-first c =
    let found = c.date_on in
    let same : to_z w32 (of_z w32 found.result.0) ≡ found.result.0 = omega (arith, signed, found.ensures.year) in
    rw same (omega (arith, signed, found.ensures.on.day))

pub returns-clause-last : goal.returns-clause-last
returns-clause-last c =
    let found = c.date_on in
    let same : to_z w32 (of_z w32 found.result.0) ≡ found.result.0 = omega (arith, signed, found.ensures.year) in
    let on = found.ensures.on in
    rw same (omega (arith, signed, on.day, on.date.day.0, date-in_year indian_list (date found.result.0 found.result.1 found.result.2) on.date))
