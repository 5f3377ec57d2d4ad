use Rattle.std.proofs.Common.{◌≡◌, ◌<◌, ℤ, pos, ◌+ℤ◌, subst, to_z, of_z, w32, arith}
use Rattle.cal_days.proofs.Signed.{signed}
use Rattle.cal_days.proofs.CopticLemmas.{coptic_start-next}
use Rattle.cal_types.specs.CalendarList.{date, start_of_year, year_length, IsOn}
use Rattle.cal_coptic.specs.CopticList.{coptic_list}
use Rattle.cal_coptic.specs.laws.CopticLaws.{day_found, start_of_year-coptic, year_length-coptic}
use Rattle.cal_coptic.proofs.coptic_year.coptic_date.Goals as goal

pub returns-clause-on : goal.returns-clause-on
returns-clause-on c =
    let year = c.year_and_day_from_fixed-number in
    let number = year.result.0 in
    let p = year.result.1 in
    let found = c.month_and_day-month in
    let kept : to_z w32 (of_z w32 number) ≡ number = omega (arith, signed, year.ensures.range) in
    let within : p < year_length coptic_list number = omega (arith, signed, year.ensures.day, year.ensures.within, coptic_start-next number, year_length-coptic number) in
    let same : start_of_year coptic_list number +ℤ pos p ≡ c.args.rd = omega (arith, signed, start_of_year-coptic number, year.ensures.day) in
    rw kept
    (subst (λ (z : ℤ). IsOn coptic_list z (date number found.result.0 found.result.1)) same
    (day_found number p found.result.0 found.result.1 within found.ensures.month found.ensures.day))
