-- What the era of the Hebrew calendar reads as, and its reference years.
-- Source: the era codes of CLDR (UTS 35). A reference year is the latest in which the day falls on or before 1972-12-31
-- of the ISO calendar, as ECMAScript Temporal's NonISOMonthDayToISOReferenceDate has it;
-- that day is the 26th of the month 4 of 5733.
use Rattle.std.specs.Prelude.{ℕ, ℤ, pos, codes, ◌||◌, nat_eq, nat_lt, if◌then◌else◌}
use Rattle.cal_types.specs.Month.{MonthParts}
use Rattle.cal_types.specs.Eras.{only_era_reads}
use Rattle.cal_types.specs.YearNames.{YearNames, reference_of_known}
use Rattle.cal_hebrew.specs.HebrewList.{is_hebrew_month}

-- the leap month: 5730, the last leap year that far; the first month: 5733;
-- the second and the third, which lack a day 30 in 5733: 5733, or 5732;
-- the fourth, of which the day 27 is past that day: the same; the others: 5732
abbrev pub hebrew_reference_year : MonthParts → ℕ → ℤ
hebrew_reference_year m day =
    if m.is_leap then pos 5730 else (
    if nat_eq m.number 1 then pos 5733 else (
    if nat_eq m.number 2 || nat_eq m.number 3 then (if nat_lt day 30 then pos 5733 else pos 5732) else (
    if nat_eq m.number 4 then (if nat_lt day 27 then pos 5733 else pos 5732) else pos 5732)))

abbrev pub hebrew_names : YearNames
hebrew_names = record {
  reads = only_era_reads (codes "am");
  reference = λ m d. reference_of_known (is_hebrew_month m) (hebrew_reference_year m d);
}
