-- The months of the years that a table chooses.
use Rattle.std.specs.Prelude.{◌≡◌, ℤ, ◌≤ℤ◌, ◌<ℤ◌}
use Rattle.cal_types.specs.CalendarList.{CalendarList}
use Rattle.cal_east_asian.specs.EastAsianList.{east_asian_list}
use Rattle.cal_east_asian.specs.laws.ComputedLaws.{computed_year}
use Rattle.cal_east_asian.specs.TableYears.{IsRow}
use Rattle.cal_east_asian.specs.TableRules.{table_rows, table_year}
use Rattle.cal_east_asian.specs.declared.east_asian_table.EastAsianTable.{EastAsianTable}
use Rattle.cal_east_asian.specs.declared.east_asian_traditional_year.EastAsianTraditionalYear.{EastAsianTraditionalYear}

-- the years from one on up to the year before another are the computed ones
abbrev pub AreComputed : EastAsianTable → ℤ → ℤ → Type 0
AreComputed t from to = (y : ℤ) → from ≤ℤ y → y <ℤ to → table_year t y ≡ computed_year t.side y

abbrev pub table_list : EastAsianTable → CalendarList
table_list t = east_asian_list (table_year t)

-- the first row has a number
abbrev pub IsFirstNumber : EastAsianTable → ℤ → Type 0
IsFirstNumber t first = (row : EastAsianTraditionalYear) × IsRow (table_rows t) 0 row × (row.related_iso ≡ first)
