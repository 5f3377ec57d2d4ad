-- The list of each kind of calendar is lawful.
use Rattle.std.proofs.Common.{[], pos}
use Rattle.cal_types.specs.CalendarList.{IsLawful}
use Rattle.cal_base.specs.laws.OffsetListLaws.{offset_list-lawful}
use Rattle.cal_coptic.specs.laws.CopticLaws.{coptic_list-lawful}
use Rattle.cal_coptic.specs.EthiopianList.{coptic_offset}
use Rattle.cal_coptic.specs.laws.EthiopianLaws.{ethiopian_list-lawful}
use Rattle.cal_coptic.specs.declared.ethiopian.EthiopianEraStyle.TheVariants.{AmeteMihret, AmeteAlem}
use Rattle.cal_east_asian.specs.laws.ComputedLaws.{computed_year}
use Rattle.cal_east_asian.specs.laws.EastAsianListLaws.{east_asian_list-lawful}
use Rattle.cal_east_asian.specs.TableYears.{chosen_year}
use Rattle.cal_east_asian.specs.declared.sides.Side.TheVariants.{China, Korea}
use Rattle.cal_gregory.specs.BuddhistEra.{buddhist_offset}
use Rattle.cal_gregory.specs.RocEra.{roc_offset}
use Rattle.cal_hebrew.specs.laws.HebrewMonths.{hebrew_list-lawful}
use Rattle.cal_hijri.specs.laws.HijriShapes.{hijri_list-lawful}
use Rattle.cal_hijri.specs.TableRules.{table_year}
use Rattle.cal_hijri.specs.TabularRules.{tabular_year}
use Rattle.cal_hijri.specs.declared.tabular_algorithm.TabularAlgorithmEpoch.TheVariants.{Friday, Thursday}
use Rattle.cal_hijri.specs.declared.tabular_algorithm.TabularAlgorithmLeapYears.TheVariants.{TypeI, TypeII}
use Rattle.cal_julian.specs.laws.IndianLaws.{indian_list-lawful}
use Rattle.cal_julian.specs.laws.JulianLaws.{julian_list-lawful}
use Rattle.cal_julian.specs.laws.PersianLaws.{persian_list-lawful}
use Rattle.cal_tables.specs.Kinds.{TableContents, kind_system}
use Rattle.cal_kinds.specs.declared.any_calendar_kind.AnyCalendarKind.{AnyCalendarKind}
use Rattle.cal_kinds.specs.declared.any_calendar_kind.AnyCalendarKind.TheVariants as kind

pub kind_lawful : (t : TableContents) (k : AnyCalendarKind) → IsLawful (kind_system t k).list
kind_lawful t kind.Buddhist = offset_list-lawful buddhist_offset
kind_lawful t kind.Chinese = east_asian_list-lawful (chosen_year (computed_year China) t.china)
kind_lawful t kind.Coptic = coptic_list-lawful
kind_lawful t kind.Dangi = east_asian_list-lawful (chosen_year (computed_year Korea) t.korea)
kind_lawful t kind.Ethiopian = ethiopian_list-lawful (coptic_offset AmeteMihret)
kind_lawful t kind.EthiopianAmeteAlem = ethiopian_list-lawful (coptic_offset AmeteAlem)
kind_lawful t kind.Gregorian = offset_list-lawful (pos 0)
kind_lawful t kind.Hebrew = hebrew_list-lawful
kind_lawful t kind.Indian = indian_list-lawful
kind_lawful t kind.HijriTabularTypeIIFriday = hijri_list-lawful (tabular_year (record { leap_years = TypeII; epoch = Friday }))
kind_lawful t kind.HijriSimulatedMecca = hijri_list-lawful (table_year [])
kind_lawful t kind.HijriTabularTypeIIThursday = hijri_list-lawful (tabular_year (record { leap_years = TypeII; epoch = Thursday }))
kind_lawful t kind.HijriUmmAlQura = hijri_list-lawful (table_year t.hijri)
kind_lawful t kind.Iso = offset_list-lawful (pos 0)
kind_lawful t kind.Japanese = offset_list-lawful (pos 0)
kind_lawful t kind.JapaneseExtended = offset_list-lawful (pos 0)
kind_lawful t kind.Julian = julian_list-lawful
kind_lawful t kind.Persian = persian_list-lawful t.persian
kind_lawful t kind.Roc = offset_list-lawful roc_offset
kind_lawful t kind.HijriTabularTypeIFriday = hijri_list-lawful (tabular_year (record { leap_years = TypeI; epoch = Friday }))
kind_lawful t kind.HijriTabularTypeIThursday = hijri_list-lawful (tabular_year (record { leap_years = TypeI; epoch = Thursday }))
