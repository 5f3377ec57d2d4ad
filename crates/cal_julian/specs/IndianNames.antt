-- What the one era of the Indian calendar reads as, and its reference years.
-- Source: the era codes of CLDR (UTS 35). A reference year is the latest in which the day falls on or before 1972-12-31
-- of the ISO calendar, as ECMAScript Temporal's NonISOMonthDayToISOReferenceDate has it;
-- that day is the 10th of the tenth month of the Indian year 1894.
use Rattle.std.specs.Prelude.{ℕ, ℤ, pos, codes, ◌&&◌, ◌||◌, nat_eq, nat_le, if◌then◌else◌}
use Rattle.cal_types.specs.Eras.{only_era_reads}
use Rattle.cal_types.specs.PlainMonths.{is_plain_month}
use Rattle.cal_types.specs.YearNames.{YearNames, reference_of_known}

-- 1893 after that day, and 1894 up to it
abbrev pub indian_reference_year : ℕ → ℕ → ℤ
indian_reference_year month day = if nat_le 11 month || (nat_eq month 10 && nat_le 11 day) then pos 1893 else pos 1894

abbrev pub indian_names : YearNames
indian_names =
    record {
      reads = only_era_reads (codes "shaka");
      reference = λ m d. reference_of_known (is_plain_month 12 m) (indian_reference_year m.number d);
    }
