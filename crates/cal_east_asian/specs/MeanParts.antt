-- The parts of a mean year.
use Rattle.std.proofs.Common.{ℤ}
use Rattle.cal_east_asian.specs.MeanYears.{leap_month, mean_months, new_year}
use Rattle.cal_east_asian.specs.laws.MeanMonthLaws.{bits, leap_place}
use Rattle.cal_east_asian.specs.EastAsianYears.{YearParts}

-- the parts of the mean year of a number
abbrev pub mean_parts : ℤ → ℤ → YearParts
mean_parts o y =
    record { new_year = new_year o y; long_months = bits (mean_months o y); leap_month = leap_place (leap_month o y) }
