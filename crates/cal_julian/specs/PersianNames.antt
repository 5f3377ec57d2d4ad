-- What the era of the Persian calendar reads as, how its years are printed, and its reference years.
-- Source: the era codes of CLDR (UTS 35). A reference year is the latest in which the day falls on or before 1972-12-31
-- of the ISO calendar, as ECMAScript Temporal's NonISOMonthDayToISOReferenceDate has it;
-- that day is 1351, month 10, day 10.
use Rattle.std.specs.Prelude.{ℕ, ℤ, pos, ◌&&◌, ◌||◌, nat_eq, nat_le, if◌then◌else◌, codes, Some}
use Rattle.cal_types.specs.declared.year.EraYear.{EraYear}
use Rattle.cal_types.specs.declared.year.YearAmbiguity.TheVariants.{CenturyRequired}
use Rattle.cal_types.specs.Eras.{only_era_reads}
use Rattle.cal_types.specs.PlainMonths.{is_plain_month}
use Rattle.cal_types.specs.YearNames.{YearNames, reference_of_known}

-- 1351, and from month 10, day 11 on 1350
abbrev pub persian_reference_year : ℕ → ℕ → ℤ
persian_reference_year month day = if nat_le 11 month || (nat_eq month 10 && nat_le 11 day) then pos 1350 else pos 1351

abbrev pub persian_names : YearNames
persian_names =
    record {
      reads = only_era_reads (codes "ap");
      reference = λ m d. reference_of_known (is_plain_month 12 m) (persian_reference_year m.number d);
    }

-- the year of the one era is the extended year
abbrev pub persian_era_year : ℤ → EraYear
persian_era_year y =
    record { year = y; extended_year = y; era = codes "ap"; era_index = Some 0; ambiguity = CenturyRequired }
