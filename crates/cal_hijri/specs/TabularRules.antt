-- The tabular rules: the year of a number, the reference years, and the rules' names and order.
-- Source: Reingold and Dershowitz, Calendrical Calculations, chapter 7. A reference year is the latest in which
-- the day falls on or before 1972-12-31 of the ISO calendar, as ECMAScript Temporal's NonISOMonthDayToISOReferenceDate
-- has it; that day is the 25th of the month 11 of 1392 where year 1 starts on a Friday, and the 26th where it starts
-- on a Thursday.
use Rattle.std.specs.Prelude.{ℕ, ◌+◌, ◌*◌, Bool, if◌then◌else◌, nat_eq, nat_le, ℤ, pos, Some, None, Option, Result, List, codes}
use Rattle.cal_types.specs.Month.{MonthParts}
use Rattle.cal_errors.specs.declared.algorithm.CalendarAlgorithm.{CalendarAlgorithm}
use Rattle.cal_errors.specs.declared.algorithm.CalendarAlgorithm.TheVariants.{Hijri}
use Rattle.cal_errors.specs.declared.algorithm.HijriCalendarAlgorithm.TheVariants.{Civil, Tbla}
use Rattle.cal_errors.specs.declared.errors.EcmaReferenceYearError.{EcmaReferenceYearError}
use Rattle.cal_types.specs.PlainMonths.{is_plain_month}
use Rattle.cal_types.specs.YearNames.{reference_of_known}
use Rattle.cal_types.specs.CalendarSystem.{CalendarSystem}
use Rattle.cal_hijri.specs.HijriSystem.{hijri_system}
use Rattle.cal_hijri.specs.RuleOrder.{epoch_place, leap_years_place}
use Rattle.cal_hijri.specs.TabularYears.{is_leap, long_by, tabular_start}
use Rattle.cal_hijri.specs.laws.TabularYearLaws.{long_by-few, tabular-near}
use Rattle.cal_hijri.specs.declared.hijri_year.HijriYear.{HijriYear}
use Rattle.cal_hijri.specs.declared.tabular_algorithm.TabularAlgorithm.{TabularAlgorithm}
use Rattle.cal_hijri.specs.declared.tabular_algorithm.TabularAlgorithmEpoch.{TabularAlgorithmEpoch}
use Rattle.cal_hijri.specs.declared.tabular_algorithm.TabularAlgorithmEpoch.TheVariants.{Thursday, Friday}
use Rattle.cal_hijri.specs.declared.tabular_algorithm.TabularAlgorithmLeapYears.{TabularAlgorithmLeapYears}
use Rattle.cal_hijri.specs.declared.tabular_algorithm.TabularAlgorithmLeapYears.TheVariants.{TypeI, TypeII}

-- the year of a number
abbrev pub tabular_year : TabularAlgorithm → ℤ → HijriYear
tabular_year s y = record {
  extended_year = y;
  first_day = tabular_start s y;
  long_months = long_by (is_leap s.leap_years y);
  near = tabular-near s y;
  twelve = long_by-few (is_leap s.leap_years y);
}

-- the day of the month 11 up to which 1392 is its reference year
abbrev pub last_reference_day : TabularAlgorithmEpoch → ℕ
last_reference_day Thursday = 26
last_reference_day Friday = 25

-- months 1 to 10: 1392; month 11: 1392 up to that day, and 1391 from then on;
-- month 12: 1391, but 1390, which has the day 30, from that day on
abbrev pub tabular_reference_year : TabularAlgorithmEpoch → ℕ → ℕ → ℤ
tabular_reference_year e month day =
    if nat_le month 10 then pos 1392 else (
    if nat_eq month 11 then (if nat_le day (last_reference_day e) then pos 1392 else pos 1391) else
    (if nat_le 30 day then pos 1390 else pos 1391))

abbrev pub tabular_reference : TabularAlgorithm → MonthParts → ℕ → Result ℤ EcmaReferenceYearError
tabular_reference s m day = reference_of_known (is_plain_month 12 m) (tabular_reference_year s.epoch m.number day)

-- the place of rules in their order: by their leap years, then by their epoch
abbrev pub rules_place : TabularAlgorithm → ℕ
rules_place s = 2 * leap_years_place s.leap_years + epoch_place s.epoch

-- whether one pair of rules is another
abbrev pub are_same_rules : TabularAlgorithm → TabularAlgorithm → Bool
are_same_rules s t = nat_eq (rules_place s) (rules_place t)

-- what CLDR names them; it has no name for the leap years of type I
abbrev pub algorithm_by : TabularAlgorithmLeapYears → TabularAlgorithmEpoch → Option CalendarAlgorithm
algorithm_by TypeI epoch = None
algorithm_by TypeII Thursday = Some (Hijri (Some Tbla))
algorithm_by TypeII Friday = Some (Hijri (Some Civil))

abbrev pub algorithm_of_rules : TabularAlgorithm → Option CalendarAlgorithm
algorithm_of_rules s = algorithm_by s.leap_years s.epoch

-- and their names in English
abbrev pub name_by : TabularAlgorithmLeapYears → TabularAlgorithmEpoch → List ℕ
name_by TypeI Thursday = codes "Hijri (Type I, Thursday)"
name_by TypeI Friday = codes "Hijri (Type I, Friday)"
name_by TypeII Thursday = codes "Hijri (astronomical)"
name_by TypeII Friday = codes "Hijri (civil)"

abbrev pub name_of_rules : TabularAlgorithm → List ℕ
name_of_rules s = name_by s.leap_years s.epoch

-- the calendar of tabular rules
abbrev pub tabular_system : TabularAlgorithm → CalendarSystem
tabular_system s = hijri_system (tabular_year s) (tabular_reference s)
