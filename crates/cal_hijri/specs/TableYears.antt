-- The years that a table of rows gives.
use Rattle.std.specs.Prelude.{List, Option, ℤ}
use Rattle.cal_types.specs.Rows as rows
use Rattle.cal_hijri.specs.declared.hijri_year.HijriYear.{HijriYear}

abbrev pub number_of : HijriYear → ℤ
number_of y = y.extended_year

-- the row of a year
abbrev pub row_of : List HijriYear → ℤ → Option HijriYear
row_of = rows.row_of number_of

-- the row of a year where there is one, and otherwise the computed year
abbrev pub chosen : (ℤ → HijriYear) → List HijriYear → ℤ → HijriYear
chosen = rows.chosen number_of
