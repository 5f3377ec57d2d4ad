-- Which rows lengthen a table, and what a lengthened table keeps.
use Rattle.std.specs.Prelude.{ℕ, ◌%◌, Bool, ◌&&◌, nat_eq, if◌then◌else◌, List, ℤ}
use Rattle.std.specs.Ordering.{int_eq}
use Rattle.cal_errors.specs.declared.errors.LengthenFault.{LengthenFault}
use Rattle.cal_types.specs.CalendarList.{CalendarList}
use Rattle.cal_types.specs.SameYear.{HaveSameYear}
use Rattle.cal_types.specs.Lengthening as rows
use Rattle.cal_east_asian.specs.EastAsianList.{east_asian_list}
use Rattle.cal_east_asian.specs.EastAsianRows.{row_year, years_of}
use Rattle.cal_east_asian.specs.RowsAccepted.{IsAccepted, IsFirstFault}
use Rattle.cal_east_asian.specs.TableYears.{number_of, chosen_year}
use Rattle.cal_east_asian.specs.laws.ComputedLaws.{computed_year}
use Rattle.cal_east_asian.specs.declared.east_asian_row.EastAsianRow.{EastAsianRow}
use Rattle.cal_east_asian.specs.declared.east_asian_traditional_year.EastAsianTraditionalYear.{EastAsianTraditionalYear}
use Rattle.cal_east_asian.specs.declared.sides.Side.{Side}

-- one more than the greatest bits of the months of a year with its leap month in a place: twelve months, or thirteen
abbrev pub bits_end : ℕ → ℕ
bits_end p = if nat_eq p 0 then 4096 else 8192

-- the bits of a year's months; those above are of no month
abbrev pub month_bits : EastAsianTraditionalYear → ℕ
month_bits y = y.long_months % bits_end y.leap_month

-- years are equal in number, first day, the lengths of their months and the place of the leap month
abbrev pub is_equal_year : EastAsianTraditionalYear → EastAsianTraditionalYear → Bool
is_equal_year a b =
    int_eq a.related_iso b.related_iso
    && (int_eq a.new_year b.new_year && (nat_eq (month_bits a) (month_bits b) && nat_eq a.leap_month b.leap_month))

-- rows are equal where the years are that they are read as
abbrev pub is_equal_row : EastAsianRow → EastAsianRow → Bool
is_equal_row a b = is_equal_year (row_year a) (row_year b)

-- rows begin with the rows of a table for one side, and are accepted for it
abbrev pub Lengthens : Side → List EastAsianRow → List EastAsianRow → Type 0
Lengthens side = rows.Lengthens is_equal_row (IsAccepted (computed_year side))

-- a fault names the first row of the table that isn't among others in its place; where there is none it is their first
-- fault
abbrev pub IsLengthenFault : Side → List EastAsianRow → List EastAsianRow → LengthenFault → Type 0
IsLengthenFault side = rows.IsLengthenFault is_equal_row (IsFirstFault (computed_year side))

-- a year isn't among the rows that were added
abbrev pub IsNotAdded : List EastAsianRow → List EastAsianRow → ℤ → Type 0
IsNotAdded old longer = rows.IsNotAdded number_of (years_of old) (years_of longer)

-- the list of a side's years with rows
abbrev pub list_with : Side → List EastAsianRow → CalendarList
list_with side rows = east_asian_list (chosen_year (computed_year side) (years_of rows))

-- each year that isn't among the added rows has the same first day and the same months by both tables
abbrev pub KeepsYears : Side → List EastAsianRow → List EastAsianRow → Type 0
KeepsYears side old longer =
    (y : ℤ) → IsNotAdded old longer y → HaveSameYear (list_with side old) (list_with side longer) y
