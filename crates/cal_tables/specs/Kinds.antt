-- The calendar of each kind, over tables.
use Rattle.std.specs.Prelude.{ℤ, pos, List, []}
use Rattle.cal_types.specs.CalendarSystem.{CalendarSystem}
use Rattle.cal_base.specs.IsoSystem.{iso_system}
use Rattle.cal_base.specs.OffsetSystem.{offset_system}
use Rattle.cal_coptic.specs.CopticSystem.{coptic_system}
use Rattle.cal_coptic.specs.EthiopianSystem.{ethiopian_system}
use Rattle.cal_coptic.specs.declared.ethiopian.EthiopianEraStyle.TheVariants.{AmeteMihret, AmeteAlem}
use Rattle.cal_east_asian.specs.laws.ComputedLaws.{computed_year}
use Rattle.cal_east_asian.specs.EastAsianReferences.{side_reference}
use Rattle.cal_east_asian.specs.EastAsianRows as east_asian
use Rattle.cal_east_asian.specs.EastAsianSystem.{east_asian_system}
use Rattle.cal_east_asian.specs.TableYears.{chosen_year}
use Rattle.cal_east_asian.specs.declared.east_asian_table.EastAsianTable.{EastAsianTable}
use Rattle.cal_east_asian.specs.declared.east_asian_traditional_year.EastAsianTraditionalYear.{EastAsianTraditionalYear}
use Rattle.cal_east_asian.specs.declared.sides.Side.{Side}
use Rattle.cal_east_asian.specs.declared.sides.Side.TheVariants.{China, Korea}
use Rattle.cal_gregory.specs.BuddhistSystem.{buddhist_system}
use Rattle.cal_gregory.specs.GregorianSystem.{gregorian_system}
use Rattle.cal_gregory.specs.JapaneseEraList.{ListedEra, eras_up_to_reiwa, japanese_era_year, japanese_reads}
use Rattle.cal_gregory.specs.JapaneseEras.{listed_eras}
use Rattle.cal_gregory.specs.RocSystem.{roc_system}
use Rattle.cal_gregory.specs.declared.japanese_eras.JapaneseEras.{JapaneseEras}
use Rattle.cal_hebrew.specs.HebrewSystem.{hebrew_system}
use Rattle.cal_hijri.specs.HijriRows as hijri_rows
use Rattle.cal_hijri.specs.TableRules.{table_system}
use Rattle.cal_hijri.specs.TabularRules.{tabular_system}
use Rattle.cal_hijri.specs.declared.hijri_table.HijriTable.{HijriTable}
use Rattle.cal_hijri.specs.declared.hijri_year.HijriYear.{HijriYear}
use Rattle.cal_hijri.specs.declared.tabular_algorithm.TabularAlgorithmEpoch.TheVariants.{Friday, Thursday}
use Rattle.cal_hijri.specs.declared.tabular_algorithm.TabularAlgorithmLeapYears.TheVariants.{TypeI, TypeII}
use Rattle.cal_julian.specs.IndianSystem.{indian_system}
use Rattle.cal_julian.specs.JulianSystem.{julian_system}
use Rattle.cal_julian.specs.PersianSystem.{corrected_system}
use Rattle.cal_julian.specs.declared.persian_corrections.PersianCorrections.{PersianCorrections}
use Rattle.cal_kinds.specs.declared.any_calendar_kind.AnyCalendarKind.{AnyCalendarKind}
use Rattle.cal_kinds.specs.declared.any_calendar_kind.AnyCalendarKind.TheVariants as kind
use Rattle.cal_tables.specs.declared.tables.Tables.{Tables}

-- the rows of each table, the corrected Persian years, and the listed eras of Japan
pub record TableContents : Type 0 where
  pub china : List EastAsianTraditionalYear
  pub korea : List EastAsianTraditionalYear
  pub hijri : List HijriYear
  pub persian : List ℤ
  pub eras : List ListedEra

-- no rows, no corrected years, and the eras up to Reiwa
abbrev pub no_contents : TableContents
no_contents = record { china = []; korea = []; hijri = []; persian = []; eras = eras_up_to_reiwa [] }

abbrev pub contents_of : EastAsianTable → EastAsianTable → HijriTable → PersianCorrections → JapaneseEras
    → TableContents
contents_of china korea hijri persian eras = record {
  china = east_asian.years_of china.rows.now;
  korea = east_asian.years_of korea.rows.now;
  hijri = hijri_rows.years_of hijri.rows.now;
  persian = persian.years.now;
  eras = listed_eras eras;
}

abbrev pub table_contents : Tables → TableContents
table_contents t = contents_of t.china t.korea t.umm_al_qura t.persian t.eras

-- the calendar of a side, Chinese or Korean, with rows
abbrev pub side_system : Side → List EastAsianTraditionalYear → CalendarSystem
side_system side rows = east_asian_system (chosen_year (computed_year side) rows) (side_reference side)

-- the Japanese calendar with listed eras
abbrev pub listed_system : List ListedEra → CalendarSystem
listed_system eras = offset_system (pos 0) (japanese_reads eras) (japanese_era_year eras)

-- the rows of Umm al-Qura serve its calendar alone: the simulation for Mecca has none
abbrev pub kind_system : TableContents → AnyCalendarKind → CalendarSystem
kind_system t kind.Buddhist = buddhist_system
kind_system t kind.Chinese = side_system China t.china
kind_system t kind.Coptic = coptic_system
kind_system t kind.Dangi = side_system Korea t.korea
kind_system t kind.Ethiopian = ethiopian_system AmeteMihret
kind_system t kind.EthiopianAmeteAlem = ethiopian_system AmeteAlem
kind_system t kind.Gregorian = gregorian_system
kind_system t kind.Hebrew = hebrew_system
kind_system t kind.Indian = indian_system
kind_system t kind.HijriTabularTypeIIFriday = tabular_system (record { leap_years = TypeII; epoch = Friday })
kind_system t kind.HijriSimulatedMecca = table_system []
kind_system t kind.HijriTabularTypeIIThursday = tabular_system (record { leap_years = TypeII; epoch = Thursday })
kind_system t kind.HijriUmmAlQura = table_system t.hijri
kind_system t kind.Iso = iso_system
kind_system t kind.Japanese = listed_system t.eras
kind_system t kind.JapaneseExtended = listed_system t.eras
kind_system t kind.Julian = julian_system
kind_system t kind.Persian = corrected_system t.persian
kind_system t kind.Roc = roc_system
kind_system t kind.HijriTabularTypeIFriday = tabular_system (record { leap_years = TypeI; epoch = Friday })
kind_system t kind.HijriTabularTypeIThursday = tabular_system (record { leap_years = TypeI; epoch = Thursday })
