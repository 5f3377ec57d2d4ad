-- Which rows are accepted as those of a table, and which fault any others have.
use Rattle.std.specs.Prelude.{ℕ, Bool, List, ℤ}
use Rattle.cal_types.specs.Faults as faults
use Rattle.cal_types.specs.RowFaults as rows
use Rattle.cal_errors.specs.declared.errors.TablePart.{TablePart}
use Rattle.cal_errors.specs.declared.errors.TableFault.{TableFault}
use Rattle.cal_east_asian.specs.EastAsianRows.{names_year, row_year}
use Rattle.cal_east_asian.specs.TableAccepted as years
use Rattle.cal_east_asian.specs.declared.east_asian_row.EastAsianRow.{EastAsianRow}
use Rattle.cal_east_asian.specs.declared.east_asian_traditional_year.EastAsianTraditionalYear.{EastAsianTraditionalYear}

-- whether row i meets a part: Range, where it names a year; another part, where its year meets it
abbrev pub meets : (ℤ → EastAsianTraditionalYear) → List EastAsianRow → ℕ → EastAsianRow → TablePart → Bool
meets year_of = rows.row_meets names_year row_year (years.meets year_of)

abbrev pub MeetsAll : (ℤ → EastAsianTraditionalYear) → List EastAsianRow → ℕ → EastAsianRow → Type 0
MeetsAll year_of rows i row = faults.MeetsAll (meets year_of rows i row)

-- rows are accepted where each of them meets each part
abbrev pub IsAccepted : (ℤ → EastAsianTraditionalYear) → List EastAsianRow → Type 0
IsAccepted year_of rows = faults.IsAccepted (meets year_of rows) rows

-- the first part of row i that breaks
abbrev pub IsFirstBroken : (ℤ → EastAsianTraditionalYear) → List EastAsianRow → ℕ → EastAsianRow → TablePart → Type 0
IsFirstBroken year_of rows i row = faults.IsFirstBroken (meets year_of rows i row)

-- a fault names the first row, counted from 1, that breaks a part, and its first part that breaks
abbrev pub IsFirstFault : (ℤ → EastAsianTraditionalYear) → List EastAsianRow → TableFault → Type 0
IsFirstFault year_of rows = faults.IsFirstFault (meets year_of rows) rows
