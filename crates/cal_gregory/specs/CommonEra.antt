-- The eras of the Gregorian calendar.
-- Source: the era codes of CLDR (UTS 35); how much of a year a reader needs is that of icu_calendar.
use Rattle.std.specs.Prelude.{◌&&◌, codes, Some, if◌then◌else◌, ℤ, pos, ◌-ℤ◌, int_lt, int_le}
use Rattle.cal_types.specs.declared.year.EraYear.{EraYear}
use Rattle.cal_types.specs.declared.year.YearAmbiguity.{YearAmbiguity}
use Rattle.cal_types.specs.declared.year.YearAmbiguity.TheVariants.{Unambiguous, CenturyRequired, EraAndCenturyRequired}

-- a year of the Common Era: before 1000 it needs its era, and from 1950 to 2049 its last two digits are enough
abbrev pub common_era_ambiguity : ℤ → YearAmbiguity
common_era_ambiguity y =
    if int_lt y (pos 1000) then EraAndCenturyRequired
    else if int_le (pos 1950) y && int_le y (pos 2049) then Unambiguous else CenturyRequired

-- year 1 is 1 CE, and year 0 is 1 BCE
abbrev pub common_era_year : ℤ → EraYear
common_era_year y =
    if int_lt y (pos 1)
    then record {
      year = pos 1 -ℤ y;
      extended_year = y;
      era = codes "bce";
      era_index = Some 0;
      ambiguity = EraAndCenturyRequired;
    }
    else record {
      year = y;
      extended_year = y;
      era = codes "ce";
      era_index = Some 1;
      ambiguity = common_era_ambiguity y;
    }
