-- Rows of a table by plain numbers, and the years that they are.
use Rattle.std.proofs.Common.{◌%◌, ◌^◌, Bool, List, pos}
use Rattle.std.specs.Prelude.{map, ◌&&◌, nat_le, nat_lt, neg_ℤ}
use Rattle.cal_days.specs.Day.{is_between}
use Rattle.cal_types.specs.RowFaults as rows
use Rattle.cal_east_asian.specs.EastAsianYear.{days_after_january_19, is_leap_place, months_of_year}
use Rattle.cal_east_asian.specs.SameYears.{same_year}
use Rattle.cal_east_asian.specs.declared.east_asian_row.EastAsianRow.{EastAsianRow}
use Rattle.cal_east_asian.specs.declared.east_asian_traditional_year.EastAsianTraditionalYear.{EastAsianTraditionalYear}
pub use Rattle.cal_east_asian.specs.RowParts.{place_or_none, row_number, row_start}
use Rattle.cal_east_asian.specs.laws.RowPartLaws.{row-few, row-valid}

-- the year of a row
abbrev pub row_year : EastAsianRow → EastAsianTraditionalYear
row_year row = record {
  related_iso = row_number row;
  new_year = row_start row;
  long_months = row.long_months % 2 ^ months_of_year (place_or_none row.leap_month);
  leap_month = place_or_none row.leap_month;
  valid = row-valid row;
  few = row-few row.long_months (place_or_none row.leap_month);
}

-- whether a row names a year: its number is from -8000000 to 8000000, its leap month has a place from 2 to 13 or it has
-- none, it has no bits but those of its months, and the year starts 0 to 34 days after January 19
abbrev pub names_year : EastAsianRow → Bool
names_year row =
    is_between (neg_ℤ (pos 8000000)) (pos 8000000) row.related_iso
    && (is_leap_place row.leap_month
    && (nat_lt row.long_months (2 ^ months_of_year row.leap_month) && nat_le row.start_offset 34))

-- each row names a year
abbrev pub NameYears : List EastAsianRow → Type 0
NameYears = rows.NameYears names_year

-- the row that names a year
abbrev pub row_of_year : EastAsianTraditionalYear → EastAsianRow
row_of_year y = record {
  related_iso = y.related_iso;
  long_months = y.long_months;
  leap_month = y.leap_month;
  start_offset = days_after_january_19 y.related_iso y.new_year;
}

-- the years of rows
abbrev pub years_of : List EastAsianRow → List EastAsianTraditionalYear
years_of rows = map row_year rows

-- two rows are the same year
abbrev pub is_same_row : EastAsianRow → EastAsianRow → Bool
is_same_row a b = same_year (row_year a) (row_year b)
