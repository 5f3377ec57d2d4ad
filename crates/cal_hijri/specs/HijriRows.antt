-- Rows of a table by plain numbers, and the years that they are.
use Rattle.std.proofs.Common.{◌%◌, Bool, List, pos, ◌-ℤ◌}
use Rattle.std.specs.Prelude.{map, ◌&&◌, nat_le, nat_lt, neg_ℤ, unsigned_abs}
use Rattle.cal_days.specs.Day.{is_between}
use Rattle.cal_days.specs.Islamic.{islamic_mean_start}
use Rattle.cal_types.specs.RowFaults as rows
use Rattle.cal_hijri.specs.HijriList.{has_parts_of}
use Rattle.cal_hijri.specs.declared.hijri_row.HijriRow.{HijriRow}
use Rattle.cal_hijri.specs.declared.hijri_year.HijriYear.{HijriYear}
pub use Rattle.cal_hijri.specs.RowStarts.{nearest_rule_year, start_after}
use Rattle.cal_hijri.specs.laws.RowStartLaws.{row-twelve, start-near}

-- the year of a row
abbrev pub row_year : HijriRow → HijriYear
row_year row = record {
  extended_year = nearest_rule_year row.extended_year;
  first_day = start_after (nearest_rule_year row.extended_year) row.start_offset;
  long_months = row.long_months % 4096;
  near = start-near (nearest_rule_year row.extended_year) row.start_offset;
  twelve = row-twelve row.long_months;
}

-- whether a row names a year: its extended year is from -8000000 to 8000000, it has no bits but those of the twelve
-- months, and the year starts 0 to 10 days after the earliest day
abbrev pub names_year : HijriRow → Bool
names_year row =
    is_between (neg_ℤ (pos 8000000)) (pos 8000000) row.extended_year
    && (nat_lt row.long_months 4096 && nat_le row.start_offset 10)

-- each row names a year
abbrev pub NameYears : List HijriRow → Type 0
NameYears = rows.NameYears names_year

-- the row that names a year; the earliest day is 5 days before the mean year
abbrev pub row_of_year : HijriYear → HijriRow
row_of_year y = record {
  extended_year = y.extended_year;
  long_months = y.long_months;
  start_offset = unsigned_abs (y.first_day -ℤ (islamic_mean_start y.extended_year -ℤ pos 5));
}

-- the years of rows
abbrev pub years_of : List HijriRow → List HijriYear
years_of rows = map row_year rows

-- two rows are equal in number, first day and months
abbrev pub is_same_row : HijriRow → HijriRow → Bool
is_same_row a b = has_parts_of (row_year a) (row_year b)
