use Rattle.std.proofs.Common.{◌≡◌, pos, ◌+ℤ◌, to_z, of_z, w32, ap, arith}
use Rattle.cal_days.specs.Julian.{julian_first_of_march}
use Rattle.cal_days.proofs.Signed.{signed}
use Rattle.cal_days.proofs.JulianLemmas.{julian_year_of_march_day, julian_year_after_march_day}
use Rattle.cal_days.proofs.julian.year_from_fixed.Goals as goal

pub returns-then-day-ge306 : goal.returns-then-day-ge306
returns-then-day-ge306 c =
    let e = c.march_year_and_day_from_fixed-year.ensures in let y = c.march_year_and_day_from_fixed-year.result.0 in
    let next : to_z w32 (of_z w32 (to_z w32 (of_z w32 y) +ℤ pos 1)) ≡ y +ℤ pos 1 = omega (arith, signed, e.range) in
    let year = julian_year_after_march_day c.args.rd y _ c.march_year_and_day_from_fixed-year.result.1 next c.requires e.day (omega (arith, signed, e.within, ap julian_first_of_march next)) (omega arith) in
    record { first = year.0; last = year.1; range = year.2 }

pub returns-else-day-ge306 : goal.returns-else-day-ge306
returns-else-day-ge306 c =
    let e = c.march_year_and_day_from_fixed-year.ensures in let y = c.march_year_and_day_from_fixed-year.result.0 in
    let same : to_z w32 (of_z w32 y) ≡ y = omega (arith, signed, e.range) in
    let year = julian_year_of_march_day c.args.rd (to_z w32 (of_z w32 y)) c.march_year_and_day_from_fixed-year.result.1 c.requires (omega (arith, signed, e.day, ap julian_first_of_march same)) (omega arith) in
    record { first = year.0; last = year.1; range = year.2 }
