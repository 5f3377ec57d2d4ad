-- The eras of the Julian calendar.
-- Source: the era codes of CLDR (UTS 35).
use Rattle.std.specs.Prelude.{codes, Some, if◌then◌else◌, ℤ, pos, ◌-ℤ◌, int_lt}
use Rattle.cal_types.specs.declared.year.EraYear.{EraYear}
use Rattle.cal_types.specs.declared.year.YearAmbiguity.TheVariants.{CenturyRequired, EraAndCenturyRequired}

-- year 1 is 1 CE, and year 0 is 1 BCE
abbrev pub julian_era_year : ℤ → EraYear
julian_era_year y =
    if int_lt y (pos 1)
    then record {
      year = pos 1 -ℤ y;
      extended_year = y;
      era = codes "bce";
      era_index = Some 0;
      ambiguity = EraAndCenturyRequired;
    }
    else record { year = y; extended_year = y; era = codes "ce"; era_index = Some 1; ambiguity = CenturyRequired }
