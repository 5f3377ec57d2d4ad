-- The one era of the ISO calendar.
use Rattle.std.specs.Prelude.{codes, Some}
use Rattle.cal_types.specs.declared.year.EraYear.{EraYear}
use Rattle.cal_types.specs.declared.year.YearAmbiguity.TheVariants.{Unambiguous}
use Rattle.cal_types.specs.CalendarList.{Date}

-- the year of the one era is the extended year
abbrev pub iso_era_year : Date → EraYear
iso_era_year t =
    record { year = t.year; extended_year = t.year; era = codes "default"; era_index = Some 0; ambiguity = Unambiguous }
