-- The year of a date: in an era (CLDR, UTS 35), or in the cycle of sixty years.
use Rattle.std.specs.Prelude.{ℤ, Option, Some, None}
use Rattle.cal_types.specs.declared.year.YearInfo.{YearInfo}
use Rattle.cal_types.specs.declared.year.YearInfo.TheVariants.{Era, Cyclic}
use Rattle.cal_types.specs.declared.year.EraYear.{EraYear}
use Rattle.cal_types.specs.declared.year.CyclicYear.{CyclicYear}

-- the year in the era, or the ISO year in which a year of the cycle begins
abbrev pub era_year_or_related_iso_of : YearInfo → ℤ
era_year_or_related_iso_of (Era y) = y.year
era_year_or_related_iso_of (Cyclic y) = y.related_iso

-- the extended year, which for a year of the cycle is the ISO year in which it begins
abbrev pub extended_year_of : YearInfo → ℤ
extended_year_of (Era y) = y.extended_year
extended_year_of (Cyclic y) = y.related_iso

-- the year in an era, where it is one
abbrev pub era_of : YearInfo → Option EraYear
era_of (Era y) = Some y
era_of (Cyclic _) = None

-- the year in the cycle of sixty years, where it is one
abbrev pub cyclic_of : YearInfo → Option CyclicYear
cyclic_of (Era _) = None
cyclic_of (Cyclic y) = Some y
