-- The one era of the Coptic calendar, the Era of the Martyrs.
-- Source: the era codes of CLDR (UTS 35).
use Rattle.std.specs.Prelude.{codes, Some, ℤ}
use Rattle.cal_types.specs.declared.year.EraYear.{EraYear}
use Rattle.cal_types.specs.declared.year.YearAmbiguity.TheVariants.{CenturyRequired}

-- the year of the one era is the extended year
abbrev pub coptic_era_year : ℤ → EraYear
coptic_era_year y =
    record { year = y; extended_year = y; era = codes "am"; era_index = Some 0; ambiguity = CenturyRequired }
