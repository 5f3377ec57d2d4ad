-- Which rows lengthen a table, and what a lengthened table keeps.
use Rattle.std.specs.Prelude.{ℕ, ◌%◌, Bool, ◌&&◌, nat_eq, List, ℤ}
use Rattle.std.specs.Ordering.{int_eq}
use Rattle.cal_errors.specs.declared.errors.LengthenFault.{LengthenFault}
use Rattle.cal_types.specs.CalendarList.{CalendarList}
use Rattle.cal_types.specs.SameYear.{HaveSameYear}
use Rattle.cal_types.specs.Lengthening as rows
use Rattle.cal_hijri.specs.HijriList.{hijri_list}
use Rattle.cal_hijri.specs.HijriRows.{row_year, years_of}
use Rattle.cal_hijri.specs.RowsAccepted.{IsAccepted, IsFirstFault}
use Rattle.cal_hijri.specs.TableFriday.{friday_year}
use Rattle.cal_hijri.specs.TableRules.{table_year}
use Rattle.cal_hijri.specs.TableYears.{number_of}
use Rattle.cal_hijri.specs.declared.hijri_row.HijriRow.{HijriRow}
use Rattle.cal_hijri.specs.declared.hijri_year.HijriYear.{HijriYear}

-- the bits of the twelve months; those above are of no month
abbrev pub month_bits : HijriYear → ℕ
month_bits y = y.long_months % 4096

-- years are equal in number, first day and the lengths of their months
abbrev pub is_equal_year : HijriYear → HijriYear → Bool
is_equal_year a b =
    int_eq a.extended_year b.extended_year && (int_eq a.first_day b.first_day && nat_eq (month_bits a) (month_bits b))

-- rows are equal where the years are that they are read as
abbrev pub is_equal_row : HijriRow → HijriRow → Bool
is_equal_row a b = is_equal_year (row_year a) (row_year b)

-- rows begin with a table's rows, and are accepted
abbrev pub Lengthens : List HijriRow → List HijriRow → Type 0
Lengthens = rows.Lengthens is_equal_row (IsAccepted friday_year)

-- a fault names the first row of the table that isn't among others in its place; where there is none it is their first
-- fault
abbrev pub IsLengthenFault : List HijriRow → List HijriRow → LengthenFault → Type 0
IsLengthenFault = rows.IsLengthenFault is_equal_row (IsFirstFault friday_year)

-- a year isn't among the rows that were added
abbrev pub IsNotAdded : List HijriRow → List HijriRow → ℤ → Type 0
IsNotAdded old longer = rows.IsNotAdded number_of (years_of old) (years_of longer)

-- the list of the years with rows
abbrev pub list_with : List HijriRow → CalendarList
list_with rows = hijri_list (table_year (years_of rows))

-- each year that isn't among the added rows has the same first day and the same months by both tables
abbrev pub KeepsYears : List HijriRow → List HijriRow → Type 0
KeepsYears old longer = (y : ℤ) → IsNotAdded old longer y → HaveSameYear (list_with old) (list_with longer) y
