-- Which day a tabular year starts on, by the leap years and the first day of year 1, and its long months.
-- Source: Reingold and Dershowitz, Calendrical Calculations, chapter 7.
use Rattle.std.specs.Prelude.{ℕ, Bool, if◌then◌else◌, ℤ, pos}
use Rattle.cal_days.specs.Islamic.{islamic_leap, islamic_start}
use Rattle.cal_hijri.specs.TypeIYears.{type_i_leap, type_i_start}
use Rattle.cal_hijri.specs.declared.tabular_algorithm.TabularAlgorithm.{TabularAlgorithm}
use Rattle.cal_hijri.specs.declared.tabular_algorithm.TabularAlgorithmEpoch.{TabularAlgorithmEpoch}
use Rattle.cal_hijri.specs.declared.tabular_algorithm.TabularAlgorithmEpoch.TheVariants.{Thursday, Friday}
use Rattle.cal_hijri.specs.declared.tabular_algorithm.TabularAlgorithmLeapYears.{TabularAlgorithmLeapYears}
use Rattle.cal_hijri.specs.declared.tabular_algorithm.TabularAlgorithmLeapYears.TheVariants.{TypeI, TypeII}

-- the first day of year 1
abbrev pub epoch_day : TabularAlgorithmEpoch → ℤ
epoch_day Thursday = pos 227014
epoch_day Friday = pos 227015

-- the leap years, and a year's first day
abbrev pub is_leap : TabularAlgorithmLeapYears → ℤ → Bool
is_leap TypeI y = type_i_leap y
is_leap TypeII y = islamic_leap y

abbrev pub start_by : TabularAlgorithmLeapYears → ℤ → ℤ → ℤ
start_by TypeI epoch y = type_i_start epoch y
start_by TypeII epoch y = islamic_start epoch y

abbrev pub tabular_start : TabularAlgorithm → ℤ → ℤ
tabular_start s y = start_by s.leap_years (epoch_day s.epoch) y

-- the odd months have 30 days, and in a leap year the last one too
abbrev pub long_by : Bool → ℕ
long_by leap = if leap then 3413 else 1365
