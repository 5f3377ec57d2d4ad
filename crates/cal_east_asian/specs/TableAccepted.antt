-- Which years are accepted as those of a table, and which fault any others have.
use Rattle.std.specs.Prelude.{ℕ, ◌+◌, Bool, true, ◌&&◌, ◌||◌, nat_lt, int_le, List, length, Option, ℤ, pos, ◌+ℤ◌}
use Rattle.cal_days.specs.Day.{IsBetween}
use Rattle.cal_types.specs.Rows as rows
use Rattle.cal_types.specs.Faults as faults
use Rattle.cal_east_asian.specs.EastAsianYears.{parts_of, end_day, leap_in_three}
use Rattle.cal_east_asian.specs.TableYears.{number_of, chosen_year}
use Rattle.cal_east_asian.specs.declared.east_asian_traditional_year.EastAsianTraditionalYear.{EastAsianTraditionalYear}
use Rattle.cal_errors.specs.declared.errors.TablePart.{TablePart}
use Rattle.cal_errors.specs.declared.errors.TablePart.TheVariants.{Range, Year, Join, End, Leap, Rule}
use Rattle.cal_errors.specs.declared.errors.TableFault.{TableFault}

-- the row before row i
abbrev pub row_before : List EastAsianTraditionalYear → ℕ → Option EastAsianTraditionalYear
row_before = rows.row_before

-- the years that a table may have
abbrev pub IsTableYear : ℤ → Type 0
IsTableYear y = IsBetween (pos 1912) (pos 9999) y

abbrev pub start_of : EastAsianTraditionalYear → ℤ
start_of row = row.new_year

-- whether a year starts where another one ends
abbrev pub follows : EastAsianTraditionalYear → EastAsianTraditionalYear → Bool
follows = rows.follows start_of end_day

-- Year: the first row's year is 1912 or later, and each next one is one more
abbrev pub is_next : Option EastAsianTraditionalYear → EastAsianTraditionalYear → Bool
is_next = rows.is_next number_of (pos 1912)

-- Join: a row starts where the row before ends, and the first row where the computed year before it ends
abbrev pub joins : (ℤ → EastAsianTraditionalYear) → Option EastAsianTraditionalYear → EastAsianTraditionalYear → Bool
joins = rows.joins number_of start_of end_day

-- End: the last row ends where the computed next year starts
abbrev pub ends : (ℤ → EastAsianTraditionalYear) → EastAsianTraditionalYear → Bool
ends = rows.ends number_of start_of end_day

-- Leap: of a year and the two before it, one has a leap month
abbrev pub leap_by_years : (ℤ → EastAsianTraditionalYear) → ℤ → Bool
leap_by_years year_of y = leap_in_three (λ z. parts_of (year_of z)) y

-- and so it is of the two triples of years that end with the first and the second year after the last row
abbrev pub leaps_after : (ℤ → EastAsianTraditionalYear) → EastAsianTraditionalYear → Bool
leaps_after years row = leap_by_years years (row.related_iso +ℤ pos 1) && leap_by_years years (row.related_iso +ℤ pos 2)

-- whether row i of a table meets a part; `year_of` gives the computed years, which stand where there is no row.
-- No rule picks the rows
abbrev pub meets : (ℤ → EastAsianTraditionalYear) → List EastAsianTraditionalYear → ℕ → EastAsianTraditionalYear
    → TablePart → Bool
meets year_of rows i row Range = true
meets year_of rows i row Year = is_next (row_before rows i) row && int_le row.related_iso (pos 9999)
meets year_of rows i row Join = joins year_of (row_before rows i) row
meets year_of rows i row End = nat_lt (i + 1) (length rows) || ends year_of row
meets year_of rows i row Leap =
    leap_by_years (chosen_year year_of rows) row.related_iso
    && (nat_lt (i + 1) (length rows) || leaps_after (chosen_year year_of rows) row)
meets year_of rows i row Rule = true

abbrev pub MeetsAll : (ℤ → EastAsianTraditionalYear) → List EastAsianTraditionalYear → ℕ → EastAsianTraditionalYear
    → Type 0
MeetsAll year_of rows i row = faults.MeetsAll (meets year_of rows i row)

-- a table is accepted where each row meets each part
abbrev pub IsAccepted : (ℤ → EastAsianTraditionalYear) → List EastAsianTraditionalYear → Type 0
IsAccepted year_of rows = faults.IsAccepted (meets year_of rows) rows

-- the first part of row i that breaks
abbrev pub IsFirstBroken : (ℤ → EastAsianTraditionalYear) → List EastAsianTraditionalYear → ℕ → EastAsianTraditionalYear
    → TablePart → Type 0
IsFirstBroken year_of rows i row = faults.IsFirstBroken (meets year_of rows i row)

-- a fault names the first row, counted from 1, that breaks a part, and its first part that breaks
abbrev pub IsFirstFault : (ℤ → EastAsianTraditionalYear) → List EastAsianTraditionalYear → TableFault → Type 0
IsFirstFault year_of rows = faults.IsFirstFault (meets year_of rows) rows
