-- What the eras of the Julian calendar read as, and its reference years.
-- Source: the era codes of CLDR (UTS 35). A reference year is the latest in which the day falls on or before 1972-12-31
-- of the ISO calendar, as ECMAScript Temporal's NonISOMonthDayToISOReferenceDate has it;
-- that day is December 18 of the Julian year 1972.
use Rattle.std.specs.Prelude.{ℕ, ℤ, pos, ◌&&◌, nat_eq, nat_le, if◌then◌else◌}
use Rattle.cal_types.specs.Eras.{common_era_reads}
use Rattle.cal_types.specs.PlainMonths.{is_plain_month}
use Rattle.cal_types.specs.YearNames.{YearNames, reference_of_known}

-- 1972, and from December 19 on 1971
abbrev pub julian_reference_year : ℕ → ℕ → ℤ
julian_reference_year month day = if nat_eq month 12 && nat_le 19 day then pos 1971 else pos 1972

abbrev pub julian_names : YearNames
julian_names =
    record {
      reads = common_era_reads;
      reference = λ m d. reference_of_known (is_plain_month 12 m) (julian_reference_year m.number d);
    }
