-- The years that a table of rows chooses beside computed years.
use Rattle.std.specs.Prelude.{ℕ, List, Option, ℤ}
use Rattle.cal_types.specs.Rows as rows
use Rattle.cal_east_asian.specs.declared.east_asian_traditional_year.EastAsianTraditionalYear.{EastAsianTraditionalYear}

abbrev pub number_of : EastAsianTraditionalYear → ℤ
number_of y = y.related_iso

-- the row of a year
abbrev pub row_of : List EastAsianTraditionalYear → ℤ → Option EastAsianTraditionalYear
row_of = rows.row_of number_of

-- the row of a year where there is one, and otherwise the computed year
abbrev pub chosen_year : (ℤ → EastAsianTraditionalYear) → List EastAsianTraditionalYear → ℤ → EastAsianTraditionalYear
chosen_year = rows.chosen number_of

-- row i of a table, counted from 0
abbrev pub IsRow : List EastAsianTraditionalYear → ℕ → EastAsianTraditionalYear → Type 0
IsRow = rows.IsRow

-- a row of a number
abbrev pub IsRowOf : List EastAsianTraditionalYear → ℤ → EastAsianTraditionalYear → Type 0
IsRowOf = rows.IsRowOf number_of

-- no row has a number
abbrev pub HasNoRow : List EastAsianTraditionalYear → ℤ → Type 0
HasNoRow = rows.HasNoRow number_of
