-- Which years are accepted as those of a table, and which fault any others have.
use Rattle.std.specs.Prelude.{ℕ, ◌+◌, Bool, true, ◌&&◌, ◌||◌, nat_lt, int_le, List, length, Option, ℤ, pos, ◌+ℤ◌}
use Rattle.cal_days.specs.Day.{IsBetween}
use Rattle.cal_types.specs.Rows as rows
use Rattle.cal_types.specs.Faults as faults
use Rattle.cal_hijri.specs.HijriList.{hijri_days}
use Rattle.cal_hijri.specs.TableYears.{number_of}
use Rattle.cal_hijri.specs.declared.hijri_year.HijriYear.{HijriYear}
use Rattle.cal_errors.specs.declared.errors.TablePart.{TablePart}
use Rattle.cal_errors.specs.declared.errors.TablePart.TheVariants.{Range, Year, Join, End, Leap, Rule}
use Rattle.cal_errors.specs.declared.errors.TableFault.{TableFault}

-- row i of a table, counted from 0
abbrev pub IsRow : List HijriYear → ℕ → HijriYear → Type 0
IsRow = rows.IsRow

-- the row before row i
abbrev pub row_before : List HijriYear → ℕ → Option HijriYear
row_before = rows.row_before

-- the years that a table may have
abbrev pub IsTableYear : ℤ → Type 0
IsTableYear y = IsBetween (pos 1) (pos 9999) y

abbrev pub start_of : HijriYear → ℤ
start_of row = row.first_day

-- the day after a year's last day
abbrev pub end_day : HijriYear → ℤ
end_day row = row.first_day +ℤ pos (hijri_days row)

-- whether a year starts where another one ends
abbrev pub follows : HijriYear → HijriYear → Bool
follows = rows.follows start_of end_day

-- Year: the first row's year is 1 or later, and each next one is one more
abbrev pub is_next : Option HijriYear → HijriYear → Bool
is_next = rows.is_next number_of (pos 1)

-- Join: a row starts where the row before ends, and the first row where the computed year before it ends
abbrev pub joins : (ℤ → HijriYear) → Option HijriYear → HijriYear → Bool
joins = rows.joins number_of start_of end_day

-- End: the last row ends where the computed next year starts
abbrev pub ends : (ℤ → HijriYear) → HijriYear → Bool
ends = rows.ends number_of start_of end_day

-- whether row i of a table meets a part; `year_of` gives the computed years.
-- A year is in range. Hijri years have no leap months, and no rule picks the rows
abbrev pub meets : (ℤ → HijriYear) → List HijriYear → ℕ → HijriYear → TablePart → Bool
meets year_of rows i row Range = true
meets year_of rows i row Year = is_next (row_before rows i) row && int_le row.extended_year (pos 9999)
meets year_of rows i row Join = joins year_of (row_before rows i) row
meets year_of rows i row End = nat_lt (i + 1) (length rows) || ends year_of row
meets year_of rows i row Leap = true
meets year_of rows i row Rule = true

abbrev pub MeetsAll : (ℤ → HijriYear) → List HijriYear → ℕ → HijriYear → Type 0
MeetsAll year_of rows i row = faults.MeetsAll (meets year_of rows i row)

-- a table is accepted where each row meets each part
abbrev pub IsAccepted : (ℤ → HijriYear) → List HijriYear → Type 0
IsAccepted year_of rows = faults.IsAccepted (meets year_of rows) rows

-- the first part of row i that breaks
abbrev pub IsFirstBroken : (ℤ → HijriYear) → List HijriYear → ℕ → HijriYear → TablePart → Type 0
IsFirstBroken year_of rows i row = faults.IsFirstBroken (meets year_of rows i row)

-- a fault names the first row, counted from 1, that breaks a part, and its first part that breaks
abbrev pub IsFirstFault : (ℤ → HijriYear) → List HijriYear → TableFault → Type 0
IsFirstFault year_of rows = faults.IsFirstFault (meets year_of rows) rows
