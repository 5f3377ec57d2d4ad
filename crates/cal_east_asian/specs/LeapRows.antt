-- The rows of a table that have a leap month.
use Rattle.std.specs.Prelude.{ℕ, Bool, List, count_by}
use Rattle.cal_east_asian.specs.EastAsianRows.{row_year}
use Rattle.cal_east_asian.specs.EastAsianYears.{has_leap_month}
use Rattle.cal_east_asian.specs.declared.east_asian_row.EastAsianRow.{EastAsianRow}

-- whether the year of a row has a leap month
abbrev pub is_leap_row : EastAsianRow → Bool
is_leap_row row = has_leap_month (row_year row)

-- how many rows have one
abbrev pub leap_rows : List EastAsianRow → ℕ
leap_rows rows = count_by is_leap_row rows
