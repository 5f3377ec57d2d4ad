use Rattle.std.proofs.Common.{◌≡◌, ap, ℤ, to_z, of_z, w32, arith}
use Rattle.cal_days.proofs.Signed.{signed}
use Rattle.cal_types.specs.CalendarList.{date, day_number}
use Rattle.cal_julian.specs.IndianList.{indian_list}
use Rattle.cal_julian.proofs.indian.IndianYearShapes.to_rata_die_inner.Goals as goal

pub day_number-requires-clause-date : goal.day_number-requires-clause-date
day_number-requires-clause-date c =
    let number = c.args.year.number in
    let same : to_z w32 (of_z w32 number) ≡ number = omega (arith, signed, c.requires.year.range) in
    rw same c.requires.date

pub returns : goal.returns
returns c =
    let number = c.args.year.number in
    let same : to_z w32 (of_z w32 number) ≡ number = omega (arith, signed, c.requires.year.range) in
    let here = ap (λ (y : ℤ). day_number indian_list (date y c.args.month c.args.day)) same in
    omega (arith, signed, here, c.new.ensures, c.day_number.ensures)
