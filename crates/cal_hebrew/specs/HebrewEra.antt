-- The era of the Hebrew calendar.
-- Source: the era codes of CLDR (UTS 35).
use Rattle.std.specs.Prelude.{codes, Some, ℤ}
use Rattle.cal_types.specs.declared.year.EraYear.{EraYear}
use Rattle.cal_types.specs.declared.year.YearAmbiguity.TheVariants.{CenturyRequired}

-- the years are numbered as the extended years, also before year 1
abbrev pub hebrew_era_year : ℤ → EraYear
hebrew_era_year y =
    record { year = y; extended_year = y; era = codes "am"; era_index = Some 0; ambiguity = CenturyRequired }
