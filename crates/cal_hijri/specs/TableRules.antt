-- The rules over a table of years: a year is the table's row, where there is one,
-- and otherwise the tabular year from Friday on.
-- Source: the reference years are those of icu_calendar for its tables,
-- the latest in which the day falls on or before 1972-12-31 of the ISO calendar,
-- as ECMAScript Temporal's NonISOMonthDayToISOReferenceDate has it.
use Rattle.std.proofs.Common.{ℕ, if◌then◌else◌, ℤ, pos, Result, List}
use Rattle.std.specs.Prelude.{nat_eq, nat_lt}
use Rattle.cal_types.specs.Month.{MonthParts}
use Rattle.cal_errors.specs.declared.errors.EcmaReferenceYearError.{EcmaReferenceYearError}
use Rattle.cal_types.specs.PlainMonths.{is_plain_month}
use Rattle.cal_types.specs.YearNames.{reference_of_known}
use Rattle.cal_types.specs.CalendarSystem.{CalendarSystem}
use Rattle.cal_hijri.specs.HijriSystem.{hijri_system}
use Rattle.cal_hijri.specs.TabularRules.{tabular_reference_year}
use Rattle.cal_hijri.specs.TableFriday.{friday_year}
use Rattle.cal_hijri.specs.TableYears.{chosen}
use Rattle.cal_hijri.specs.declared.hijri_year.HijriYear.{HijriYear}
use Rattle.cal_hijri.specs.declared.tabular_algorithm.TabularAlgorithmEpoch.TheVariants.{Friday}

-- the year of a number
abbrev pub table_year : List HijriYear → ℤ → HijriYear
table_year rows y = chosen friday_year rows y

-- as in the tabular calendar, but with the day 30 in a year where the month has it
abbrev pub table_reference_year : ℕ → ℕ → ℤ
table_reference_year month day =
    if nat_lt day 30 then tabular_reference_year Friday month day else (
    if nat_eq month 2 then pos 1390 else (
    if nat_eq month 3 then pos 1391 else (
    if nat_eq month 5 then pos 1391 else (
    if nat_eq month 7 then pos 1389 else (
    if nat_eq month 10 then pos 1390 else tabular_reference_year Friday month day)))))

abbrev pub table_reference : MonthParts → ℕ → Result ℤ EcmaReferenceYearError
table_reference m day = reference_of_known (is_plain_month 12 m) (table_reference_year m.number day)

-- the calendar of a table's rows
abbrev pub table_system : List HijriYear → CalendarSystem
table_system rows = hijri_system (table_year rows) table_reference

-- of Umm al-Qura, and of the simulation at Mecca
abbrev pub umm_al_qura_system : List HijriYear → CalendarSystem
umm_al_qura_system rows = table_system rows

abbrev pub simulated_mecca_system : List HijriYear → CalendarSystem
simulated_mecca_system rows = table_system rows
