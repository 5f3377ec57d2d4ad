-- The years of the small calendar: each is its number.
use Rattle.std.proofs.Common.{pos}
use Rattle.cal_arith.specs.Given.{CalendarYears}
use Rattle.arith_tests.specs.AlternatingMonths.{alternating}
use Rattle.arith_tests.specs.declared.alternating_months.AlternatingYear.{AlternatingYear}

abbrev pub alternating_years : CalendarYears AlternatingYear
alternating_years =
    record { list = alternating; year_of = λ y. record { number = y }; extended = λ i. i.number; offset = pos 0 }
