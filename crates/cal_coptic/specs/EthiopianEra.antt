-- The eras of the Ethiopian calendar.
-- Source: the era codes of CLDR (UTS 35).
use Rattle.std.specs.Prelude.{codes, Some, if◌then◌else◌, ℤ, pos, ◌+ℤ◌, int_lt}
use Rattle.cal_types.specs.declared.year.EraYear.{EraYear}
use Rattle.cal_types.specs.declared.year.YearAmbiguity.TheVariants.{CenturyRequired}
use Rattle.cal_coptic.specs.declared.ethiopian.EthiopianEraStyle.{EthiopianEraStyle}
use Rattle.cal_coptic.specs.declared.ethiopian.EthiopianEraStyle.TheVariants.{AmeteMihret, AmeteAlem}

-- a year of the Era of the World
abbrev pub world_era_year : ℤ → ℤ → EraYear
world_era_year year extended_year =
    record {
      year = year;
      extended_year = extended_year;
      era = codes "aa";
      era_index = Some 0;
      ambiguity = CenturyRequired;
    }

-- years before the Incarnation Era stand in the Era of the World, in which Amete Alem counts all years
abbrev pub ethiopian_era_year : EthiopianEraStyle → ℤ → EraYear
ethiopian_era_year AmeteMihret y =
    if int_lt y (pos 1)
    then world_era_year (y +ℤ pos 5500) y
    else record { year = y; extended_year = y; era = codes "am"; era_index = Some 1; ambiguity = CenturyRequired }
ethiopian_era_year AmeteAlem y = world_era_year y y
