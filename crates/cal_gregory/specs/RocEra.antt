-- The eras of the calendar of the Republic of China.
-- Source: the era codes of CLDR (UTS 35); how much of a year a reader needs is that of icu_calendar.
use Rattle.std.specs.Prelude.{ℕ, List, codes, Option, Some, None, if◌then◌else◌, ℤ, pos, ◌-ℤ◌, int_lt}
use Rattle.cal_types.specs.declared.year.EraYear.{EraYear}
use Rattle.cal_types.specs.declared.year.YearAmbiguity.TheVariants.{CenturyRequired, EraAndCenturyRequired}
use Rattle.cal_types.specs.YearNames.{is_code, year_in_era}

-- the ISO year less the extended year
abbrev pub roc_offset : ℤ
roc_offset = pos 1911

-- the years of the Republic, and the years before it, which are counted back from 1
abbrev pub roc_reads : List ℕ → ℤ → Option ℤ
roc_reads era n = year_in_era (is_code era (codes "roc")) n (year_in_era (is_code era (codes "broc")) (pos 1 -ℤ n) None)

-- year 1 is the first of the Republic, and year 0 the first before it
abbrev pub roc_era_year : ℤ → EraYear
roc_era_year y =
    if int_lt y (pos 1)
    then record {
      year = pos 1 -ℤ y;
      extended_year = y;
      era = codes "broc";
      era_index = Some 0;
      ambiguity = EraAndCenturyRequired;
    }
    else record { year = y; extended_year = y; era = codes "roc"; era_index = Some 1; ambiguity = CenturyRequired }
