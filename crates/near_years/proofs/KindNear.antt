-- The calendar of each kind, near the valid days.
use Rattle.std.proofs.Common.{◌≡◌, ℕ, ◌≤◌, Bool, true, false, not, if◌then◌else◌, List, [], refl, sym, subst, arith, ◌∙◌, ℤ, pos, neg_ℤ, ◌+ℤ◌, ◌-ℤ◌, ◌*ℤ◌, ◌≤ℤ◌, ◌<ℤ◌}
use Rattle.std.specs.Prelude.{IsTrue, ◌&&◌, ◌==◌, nat_le}
use Rattle.std.proofs.lemmas.Bool.Decides.{nat_tests}
use Rattle.std.proofs.lemmas.Int.{by_lt_z}
use Rattle.cal_days.specs.Day.{IsBetween, IsFieldYear}
use Rattle.cal_days.proofs.CopticLemmas.{coptic_start-bounds}
use Rattle.cal_days.proofs.GregorianLemmas.{gregorian_start-bounds}
use Rattle.cal_days.proofs.HebrewLemmas.{hebrew_start-bounds}
use Rattle.cal_days.proofs.JulianLemmas.{julian_start-bounds}
use Rattle.cal_days.proofs.PersianLemmas.{persian_start-bounds}
use Rattle.cal_days.proofs.Signed.{signed}
use Rattle.cal_base.specs.GregorianList.{gregorian_list}
use Rattle.cal_base.specs.OffsetList.{offset_list}
use Rattle.cal_base.specs.laws.GregorianLaws.{gregorian_list-bounded, start_of_year-gregorian}
use Rattle.cal_base.specs.laws.OffsetListLaws.{offset_list-plain, true-offset}
use Rattle.cal_coptic.specs.CopticList.{coptic_list}
use Rattle.cal_coptic.specs.laws.CopticLaws.{coptic_list-bounded, coptic_list-plain, start_of_year-coptic}
use Rattle.cal_coptic.specs.EthiopianList.{coptic_offset, ethiopian_list}
use Rattle.cal_coptic.specs.laws.EthiopianLaws.{coptic_offset-small, ethiopian_list-plain}
use Rattle.cal_coptic.specs.EthiopianSystem.{ethiopian_system}
use Rattle.cal_coptic.specs.declared.ethiopian.EthiopianEraStyle.{EthiopianEraStyle}
use Rattle.cal_coptic.specs.declared.ethiopian.EthiopianEraStyle.TheVariants.{AmeteMihret, AmeteAlem}
use Rattle.cal_east_asian.specs.laws.ComputedLaws.{computed_year, computed-years}
use Rattle.cal_east_asian.specs.laws.EastAsianStartLaws as east_asian_bounds
use Rattle.cal_east_asian.specs.EastAsianList.{east_asian_list}
use Rattle.cal_east_asian.specs.EastAsianRows as east_asian
use Rattle.cal_east_asian.specs.TableAccepted as lunisolar
use Rattle.cal_east_asian.specs.TableYears.{chosen_year}
use Rattle.cal_east_asian.specs.laws.TableYearLaws.{chosen-years}
use Rattle.cal_east_asian.specs.declared.east_asian_table.EastAsianTable.{EastAsianTable}
use Rattle.cal_east_asian.specs.declared.east_asian_traditional_year.EastAsianTraditionalYear.{EastAsianTraditionalYear}
use Rattle.cal_east_asian.specs.declared.sides.Side.{Side}
use Rattle.cal_east_asian.specs.declared.sides.Side.TheVariants as side
use Rattle.cal_gregory.specs.BuddhistEra.{buddhist_offset}
use Rattle.cal_gregory.specs.RocEra.{roc_offset}
use Rattle.cal_hebrew.specs.HebrewList.{hebrew_list}
use Rattle.cal_hebrew.specs.laws.HebrewLaws as hebrew_bounds
use Rattle.cal_hebrew.specs.laws.HebrewMonths.{is_of_kind-hebrew, start_of_year-hebrew}
use Rattle.cal_hijri.specs.HijriList.{hijri_list, Joins, Numbered}
use Rattle.cal_hijri.specs.HijriRows as hijri_rows
use Rattle.cal_hijri.specs.TableAccepted as hijri
use Rattle.cal_hijri.specs.TableFriday.{friday_year}
use Rattle.cal_hijri.specs.TableRules.{table_year, table_system}
use Rattle.cal_hijri.specs.TabularRules.{tabular_year, tabular_system}
use Rattle.cal_hijri.specs.laws.HijriBounds as hijri_bounds
use Rattle.cal_hijri.specs.laws.HijriShapes.{hijri_list-plain}
use Rattle.cal_hijri.specs.laws.TableRuleLaws.{table-numbered, table-joins}
use Rattle.cal_hijri.specs.laws.TabularRuleLaws.{tabular-numbered, tabular-joins}
use Rattle.cal_hijri.specs.declared.hijri_year.HijriYear.{HijriYear}
use Rattle.cal_hijri.specs.declared.tabular_algorithm.TabularAlgorithm.{TabularAlgorithm}
use Rattle.cal_hijri.specs.declared.tabular_algorithm.TabularAlgorithmEpoch.TheVariants.{Friday, Thursday}
use Rattle.cal_hijri.specs.declared.tabular_algorithm.TabularAlgorithmLeapYears.TheVariants.{TypeI, TypeII}
use Rattle.cal_julian.specs.IndianList.{indian_list}
use Rattle.cal_julian.specs.JulianList.{julian_list}
use Rattle.cal_julian.specs.PersianList.{persian_list}
use Rattle.cal_julian.specs.PersianRule.{AreCorrectable}
use Rattle.cal_julian.specs.laws.IndianLaws as indian_bounds
use Rattle.cal_julian.specs.laws.IndianLaws.{indian_list-plain, start_of_year-indian}
use Rattle.cal_julian.specs.laws.JulianLaws as julian_bounds
use Rattle.cal_julian.specs.laws.JulianLaws.{julian_list-plain, start_of_year-julian}
use Rattle.cal_julian.specs.laws.PersianLaws as persian_bounds
use Rattle.cal_julian.specs.laws.PersianLaws.{persian_list-plain, start_of_year-persian}
use Rattle.cal_julian.specs.laws.PersianRuleLaws.{persian_new_year-near}
use Rattle.cal_kinds.specs.declared.any_calendar_kind.AnyCalendarKind.{AnyCalendarKind}
use Rattle.cal_kinds.specs.declared.any_calendar_kind.AnyCalendarKind.TheVariants as kind
use Rattle.cal_rrule.specs.NearDays.{IsNearList}
use Rattle.cal_tables.specs.Kinds.{kind_system, side_system, table_contents}
use Rattle.cal_tables.specs.declared.tables.Tables.{Tables}
use Rattle.cal_types.proofs.ListLemmas.{date-in_year, start_of_year-later}
use Rattle.cal_types.proofs.RenumberedBoundLemmas.{apart-renumbered}
use Rattle.cal_types.proofs.RenumberedLemmas.{day_number-renumbered, renumbered-date}
use Rattle.cal_types.specs.CalendarList.{CalendarList, Date, IsDate, IsOn, day_number, start_of_year, year_length}
use Rattle.cal_types.specs.Month.{MonthParts}
use Rattle.cal_types.specs.PlainMonths.{HasPlainMonths, is_plain_month}
use Rattle.cal_types.specs.Renumbered.{renumbered, shifted_date}
use Rattle.cal_types.specs.RenumberedBounds.{IsShift}
use Rattle.near_years.proofs.NearLists.{buddhist_near, coptic_near, east_asian_near, ethiopian_near, gregorian_near, hebrew_near, hijri_near, indian_near, julian_near, persian_near, roc_near}

side_near : (s : Side) (rows : List EastAsianTraditionalYear) → lunisolar.IsAccepted (computed_year s) rows → IsNearList (side_system s rows).list
side_near s rows accepted = east_asian_near (chosen_year (computed_year s) rows) (chosen-years (computed_year s) rows accepted (computed-years s))

-- the Chinese or the Korean calendar over a table of its side
pub table_side_near : (s : Side) (table : EastAsianTable) → table.side ≡ s → IsNearList (side_system s (east_asian.years_of table.rows.now)).list
table_side_near s table same =
    side_near s (east_asian.years_of table.rows.now)
    (subst (λ (s : Side). lunisolar.IsAccepted (computed_year s) (east_asian.years_of table.rows.now)) same table.accepted)

pub tabular_near : (a : TabularAlgorithm) → IsNearList (tabular_system a).list
tabular_near a = hijri_near (tabular_year a) (tabular-numbered a) (tabular-joins a)

pub table_near : (rows : List HijriYear) → hijri.IsAccepted friday_year rows → IsNearList (table_system rows).list
table_near rows accepted = hijri_near (table_year rows) (table-numbered rows accepted) (table-joins rows accepted)

-- fields can name the years of days near the valid ones, in the calendar of each kind
pub kind_near : (t : Tables) (k : AnyCalendarKind) → IsNearList (kind_system (table_contents t) k).list
kind_near t kind.Buddhist = buddhist_near
kind_near t kind.Chinese = table_side_near side.China t.china t.of_china
kind_near t kind.Coptic = coptic_near
kind_near t kind.Dangi = table_side_near side.Korea t.korea t.of_korea
kind_near t kind.Ethiopian = ethiopian_near AmeteMihret
kind_near t kind.EthiopianAmeteAlem = ethiopian_near AmeteAlem
kind_near t kind.Gregorian = gregorian_near
kind_near t kind.Hebrew = hebrew_near
kind_near t kind.Indian = indian_near
kind_near t kind.HijriTabularTypeIIFriday = tabular_near (record { leap_years = TypeII; epoch = Friday })
kind_near t kind.HijriSimulatedMecca = table_near [] (λ i row h. absurd cc)
kind_near t kind.HijriTabularTypeIIThursday = tabular_near (record { leap_years = TypeII; epoch = Thursday })
kind_near t kind.HijriUmmAlQura = table_near (hijri_rows.years_of t.umm_al_qura.rows.now) t.umm_al_qura.accepted
kind_near t kind.Iso = gregorian_near
kind_near t kind.Japanese = gregorian_near
kind_near t kind.JapaneseExtended = gregorian_near
kind_near t kind.Julian = julian_near
kind_near t kind.Persian = persian_near t.persian.years.now t.persian.known
kind_near t kind.Roc = roc_near
kind_near t kind.HijriTabularTypeIFriday = tabular_near (record { leap_years = TypeI; epoch = Friday })
kind_near t kind.HijriTabularTypeIThursday = tabular_near (record { leap_years = TypeI; epoch = Thursday })
