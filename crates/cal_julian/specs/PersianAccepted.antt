-- Which years a Persian calendar may correct, and which fault any others have.
use Rattle.std.specs.Prelude.{ℕ, Bool, true, ◌&&◌, int_lt, List, Option, Some, None, ℤ, pos}
use Rattle.cal_days.specs.Day.{is_between}
use Rattle.cal_days.specs.Persian.{persian_leap}
use Rattle.cal_types.specs.Rows as rows
use Rattle.cal_types.specs.Faults as faults
use Rattle.cal_errors.specs.declared.errors.TablePart.{TablePart}
use Rattle.cal_errors.specs.declared.errors.TablePart.TheVariants.{Range, Year, Join, End, Leap, Rule}
use Rattle.cal_errors.specs.declared.errors.TableFault.{TableFault}

-- year i of those that are listed, counted from 0
abbrev pub IsListed : List ℤ → ℕ → ℤ → Type 0
IsListed = rows.IsRow

-- the year before year i
abbrev pub year_before : List ℤ → ℕ → Option ℤ
year_before = rows.row_before

-- a year is above the one before it; the first one has none
abbrev pub is_above : Option ℤ → ℤ → Bool
is_above None y = true
is_above (Some before) y = int_lt before y

-- whether a year meets a part, after the one before it. Year: it is from 1 to 9999 and above that one.
-- Rule: the rule makes it a leap year.
-- A year is a plain number, which is in range. It has no start, so it has nothing to join, and no leap months
abbrev pub meets : Option ℤ → ℤ → TablePart → Bool
meets before y Range = true
meets before y Year = is_between (pos 1) (pos 9999) y && is_above before y
meets before y Join = true
meets before y End = true
meets before y Leap = true
meets before y Rule = persian_leap y

-- whether year i meets a part
abbrev pub meets_at : List ℤ → ℕ → ℤ → TablePart → Bool
meets_at years i y = meets (year_before years i) y

abbrev pub MeetsAll : Option ℤ → ℤ → Type 0
MeetsAll before y = faults.MeetsAll (meets before y)

-- years are accepted where each of them meets each part
abbrev pub AreCorrections : List ℤ → Type 0
AreCorrections years = faults.IsAccepted (meets_at years) years

-- the first part that a year breaks
abbrev pub IsFirstBroken : Option ℤ → ℤ → TablePart → Type 0
IsFirstBroken before y = faults.IsFirstBroken (meets before y)

-- a fault names the first year, counted from 1, that breaks a part, and its first part that breaks
abbrev pub IsFirstFault : List ℤ → TableFault → Type 0
IsFirstFault years = faults.IsFirstFault (meets_at years) years
