-- The rows before a book, and the book behind them.
use Rattle.std.specs.Prelude.{◌≡◌, ℕ, ◌+◌, ◌-◌, ◌≤◌, ◌==◌, zero, suc, List, [], ◌++◌, length, drop, position, option_map, unwrap_or, true}
use Rattle.byte_io.specs.Lines.{lines_in}
use Rattle.table_rows.specs.RowLines.{AreRows, AtFaultyRow, AtRequest, EndRows, RowsEnd, WithLines}
use Rattle.table_rows.specs.TableRows.{TableRows}
use Rattle.table_rows.specs.declared.table.RowFault.{RowFault}

-- what follows the first LF
abbrev pub behind_line : List ℕ → List ℕ
behind_line bytes = unwrap_or (option_map (λ i. drop (i + 1) bytes) (position (λ b. b == 10) bytes)) []

-- what follows so many lines
abbrev pub behind_lines : ℕ → List ℕ → List ℕ
behind_lines zero bytes = bytes
behind_lines (suc n) bytes = behind_lines n (behind_line bytes)

-- the book of an input: from the first line on that is neither ignored nor a row line
abbrev pub IsBook : RowsEnd → List ℕ → List ℕ → Type 0
IsBook WithLines bytes book = book ≡ []
IsBook (AtRequest n request others) bytes book = book ≡ behind_lines (n - 1) bytes
IsBook (AtFaultyRow n why) bytes book = ⊥

-- the row lines of an input gave these rows, and the book follows them
abbrev pub HasBook : List ℕ → TableRows → List ℕ → Type 0
HasBook bytes rows book = (end : RowsEnd) × EndRows end (lines_in bytes true) rows × IsBook end bytes book

-- the row line of this number is invalid
abbrev pub HasFaultyRow : List ℕ → ℕ → RowFault → Type 0
HasFaultyRow bytes n why = (rows : TableRows) × EndRows (AtFaultyRow n why) (lines_in bytes true) rows

-- the first lines of an input gave these rows, and this follows them
pub record HasHead (bytes : List ℕ) (rows : TableRows) (rest : List ℕ) (number : ℕ) : Type 0 where
  pub lines : List (List ℕ)
  pub are_rows : AreRows lines rows
  pub number_is : number ≡ length lines + 1
  pub all : lines_in bytes true ≡ lines ++ lines_in rest true
  pub behind : rest ≡ behind_lines (length lines) bytes
  pub few : length lines + length rest ≤ length bytes
