-- Mean years are years of a Chinese or Korean calendar.
use Rattle.std.proofs.Common.{ℤ}
use Rattle.cal_east_asian.specs.MeanYears.{IsOffset}
use Rattle.cal_east_asian.specs.EastAsianYears.{AreYears}
use Rattle.cal_east_asian.specs.laws.EastAsianYearLaws.{years-from}
use Rattle.cal_east_asian.specs.MeanTraditionalYears.{mean_traditional_year}
use Rattle.cal_east_asian.specs.MeanParts.{mean_parts}
use Rattle.cal_east_asian.specs.laws.MeanPartLaws.{mean-valid, mean-end, mean-leaps}

pub mean-years : (o : ℤ) (h : IsOffset o) → AreYears (mean_traditional_year o h)
mean-years o h = years-from (mean_parts o) (mean-valid o h) (mean-end o) (mean-leaps o)
