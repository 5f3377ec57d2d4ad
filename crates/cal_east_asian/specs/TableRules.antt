-- The years and reference years of China and Korea with a table, and when two tables have the same rows.
use Rattle.std.proofs.Common.{Bool, List, ℤ}
use Rattle.std.specs.Cmp.Lexicographic.{pointwise}
use Rattle.cal_east_asian.specs.EastAsianRows.{years_of}
use Rattle.cal_east_asian.specs.SameYears.{same_year}
use Rattle.cal_east_asian.specs.laws.ComputedLaws.{computed_year}
use Rattle.cal_east_asian.specs.TableYears.{chosen_year}
use Rattle.cal_east_asian.specs.declared.east_asian_traditional_year.EastAsianTraditionalYear.{EastAsianTraditionalYear}
use Rattle.cal_east_asian.specs.declared.east_asian_table.EastAsianTable.{EastAsianTable}

-- the year of a number by a table
abbrev pub table_year : EastAsianTable → ℤ → EastAsianTraditionalYear
table_year t = chosen_year (computed_year t.side) (years_of t.rows.now)

abbrev pub table_rows : EastAsianTable → List EastAsianTraditionalYear
table_rows t = years_of t.rows.now

-- two tables have the same rows
abbrev pub have_same_rows : EastAsianTable → EastAsianTable → Bool
have_same_rows s t = pointwise same_year (table_rows s) (table_rows t)
