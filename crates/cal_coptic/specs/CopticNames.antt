-- What the one era of the Coptic calendar reads as, and its reference years.
-- Source: the era codes of CLDR (UTS 35). A reference year is the latest in which the day falls on or before 1972-12-31
-- of the ISO calendar, as ECMAScript Temporal's NonISOMonthDayToISOReferenceDate has it;
-- that day is the 22nd of the fourth month of the Coptic year 1689.
use Rattle.std.specs.Prelude.{ℕ, ℤ, pos, codes, ◌&&◌, ◌||◌, nat_eq, nat_le, if◌then◌else◌}
use Rattle.cal_types.specs.Eras.{only_era_reads}
use Rattle.cal_types.specs.PlainMonths.{is_plain_month}
use Rattle.cal_types.specs.YearNames.{YearNames, reference_of_known}

-- 1689 up to that day, and 1688 after it; but of the years before, 1687 is the last one with a sixth epagomenal day
abbrev pub coptic_reference_year : ℕ → ℕ → ℤ
coptic_reference_year month day =
    if nat_le month 3 || (nat_eq month 4 && nat_le day 22) then pos 1689
    else if nat_eq month 13 && nat_le 6 day then pos 1687
    else pos 1688

-- years are numbered from the Era of the Martyrs on, and before it
abbrev pub coptic_names : YearNames
coptic_names =
    record {
      reads = only_era_reads (codes "am");
      reference = λ m d. reference_of_known (is_plain_month 13 m) (coptic_reference_year m.number d);
    }
