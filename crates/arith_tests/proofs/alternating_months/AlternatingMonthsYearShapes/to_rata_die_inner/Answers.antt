use Rattle.std.proofs.Common.{◌≤◌, arith}
use Rattle.cal_days.proofs.Signed.{signed}
use Rattle.arith_tests.specs.laws.AlternatingMonthLaws.{days_before-alternating, month_count-alternating, start_of_year-alternating}
use Rattle.arith_tests.proofs.alternating_months.AlternatingMonthsYearShapes.to_rata_die_inner.Goals as goal

pub returns : goal.returns
returns c =
    let most : c.args.month ≤ 12 = omega (arith, c.requires.date.place, month_count-alternating c.args.year.number) in
    let start = start_of_year-alternating c.args.year.number in
    let before = days_before-alternating c.args.year.number c.args.month c.requires.date.place.0 most in
    omega (arith, signed, start, before, c.requires.date.day, c.requires.year.range, c.new.ensures, c.day_of_year.ensures)

pub day_of_year-requires : goal.day_of_year-requires
day_of_year-requires c = (c.requires.date.place.0, omega (arith, c.requires.date.place, month_count-alternating c.args.year.number))
