-- The order of the tabular rules.
use Rattle.std.specs.Prelude.{ℕ}
use Rattle.cal_hijri.specs.declared.tabular_algorithm.TabularAlgorithmEpoch.{TabularAlgorithmEpoch}
use Rattle.cal_hijri.specs.declared.tabular_algorithm.TabularAlgorithmEpoch.TheVariants.{Thursday, Friday}
use Rattle.cal_hijri.specs.declared.tabular_algorithm.TabularAlgorithmLeapYears.{TabularAlgorithmLeapYears}
use Rattle.cal_hijri.specs.declared.tabular_algorithm.TabularAlgorithmLeapYears.TheVariants.{TypeI, TypeII}

-- the place of an epoch: the earlier day is below the later one
abbrev pub epoch_place : TabularAlgorithmEpoch → ℕ
epoch_place Thursday = 0
epoch_place Friday = 1

-- the place of a rule of leap years
abbrev pub leap_years_place : TabularAlgorithmLeapYears → ℕ
leap_years_place TypeII = 0
leap_years_place TypeI = 1
