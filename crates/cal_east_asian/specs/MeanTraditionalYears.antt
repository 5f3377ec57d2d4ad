-- Mean years as years of a Chinese or Korean calendar.
use Rattle.std.proofs.Common.{◌≡◌, ℤ}
use Rattle.cal_east_asian.specs.MeanYears.{IsOffset, mean_months, new_year}
use Rattle.cal_east_asian.specs.EastAsianMonths.{year_entries}
use Rattle.cal_east_asian.specs.EastAsianYears.{year_from}
use Rattle.cal_east_asian.specs.declared.east_asian_traditional_year.EastAsianTraditionalYear.{EastAsianTraditionalYear}
pub use Rattle.cal_east_asian.specs.MeanParts.{mean_parts}
use Rattle.cal_east_asian.specs.laws.MeanPartLaws.{mean-valid}

-- a year is the mean one of a number
pub record IsMeanYear (o y : ℤ) (year : EastAsianTraditionalYear) : Type 0 where
  pub number : year.related_iso ≡ y
  pub first_day : year.new_year ≡ new_year o y
  pub months : year_entries year.leap_month year.long_months ≡ mean_months o y

-- the mean year of a number
abbrev pub mean_traditional_year : (o : ℤ) → IsOffset o → ℤ → EastAsianTraditionalYear
mean_traditional_year o h = year_from (mean_parts o) (mean-valid o h)
