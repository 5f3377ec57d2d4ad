-- The one era of the Buddhist calendar.
-- Source: the era codes of CLDR (UTS 35); how much of a year a reader needs is that of icu_calendar.
use Rattle.std.specs.Prelude.{codes, Some, ℤ, neg_ℤ, pos}
use Rattle.cal_types.specs.declared.year.EraYear.{EraYear}
use Rattle.cal_types.specs.declared.year.YearAmbiguity.TheVariants.{CenturyRequired}

-- the ISO year less the extended year
abbrev pub buddhist_offset : ℤ
buddhist_offset = neg_ℤ (pos 543)

-- the year of the one era is the extended year
abbrev pub buddhist_era_year : ℤ → EraYear
buddhist_era_year y =
    record { year = y; extended_year = y; era = codes "be"; era_index = Some 0; ambiguity = CenturyRequired }
