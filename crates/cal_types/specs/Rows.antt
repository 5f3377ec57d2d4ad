-- The rows of a table: years whose numbers follow one another, beside years that are computed.
use Rattle.std.specs.Prelude.{◌≡◌, ◌≢◌, ℕ, suc, ◌+◌, ◌-◌, nat_eq, nat_lt, int_le, int_lt, if◌then◌else◌, Bool, true, ◌||◌, List, [], ◌∷◌, length, Option, Some, None, slice_get, unsigned_abs, ℤ, pos, ◌+ℤ◌, ◌-ℤ◌}
use Rattle.std.specs.Option.{unwrap_or}
use Rattle.std.specs.Ordering.{int_eq}

-- row i of a table, counted from 0
abbrev pub IsRow : {Y : Type 0} → List Y → ℕ → Y → Type 0
IsRow rows i row = slice_get rows i ≡ Some row

-- the row before row i
abbrev pub row_before : {Y : Type 0} → List Y → ℕ → Option Y
row_before rows i = if nat_eq i 0 then None else slice_get rows (i - 1)

-- the first row's number is `least` or more, and each next one is one more
abbrev pub is_next : {Y : Type 0} → (Y → ℤ) → ℤ → Option Y → Y → Bool
is_next number least None row = int_le least (number row)
is_next number least (Some before) row = int_eq (number row) (number before +ℤ pos 1)

-- each row's number is one more than that of the row before it
abbrev pub AreConsecutive : {Y : Type 0} → (Y → ℤ) → List Y → Type 0
AreConsecutive {Y} number rows =
    (i : ℕ) (before row : Y) → IsRow rows i before → IsRow rows (suc i) row → number row ≡ number before +ℤ pos 1

-- a row of a number
abbrev pub IsRowOf : {Y : Type 0} → (Y → ℤ) → List Y → ℤ → Y → Type 0
IsRowOf number rows y row = (i : ℕ) × IsRow rows i row × (number row ≡ y)

-- no row has a number
abbrev pub HasNoRow : {Y : Type 0} → (Y → ℤ) → List Y → ℤ → Type 0
HasNoRow {Y} number rows y = (i : ℕ) (row : Y) → IsRow rows i row → number row ≢ y

-- the row of a number. Rows follow one another, so it stands as far after the first row as the number is after the
-- first row's
abbrev pub row_of : {Y : Type 0} → (Y → ℤ) → List Y → ℤ → Option Y
row_of number [] y = None
row_of number (first ∷ rest) y =
    if int_lt y (number first) then None else slice_get (first ∷ rest) (unsigned_abs (y -ℤ number first))

-- the row of a number where there is one, and otherwise the computed year
abbrev pub chosen : {Y : Type 0} → (Y → ℤ) → (ℤ → Y) → List Y → ℤ → Y
chosen number year_of rows y = unwrap_or (row_of number rows y) (year_of y)

-- whether a year starts where another one ends
abbrev pub follows : {Y : Type 0} → (Y → ℤ) → (Y → ℤ) → Y → Y → Bool
follows start end before row = int_eq (start row) (end before)

-- whether a row starts where the row before it ends, and the first row where the computed year before it ends
abbrev pub joins : {Y : Type 0} → (Y → ℤ) → (Y → ℤ) → (Y → ℤ) → (ℤ → Y) → Option Y → Y → Bool
joins number start end year_of None row = follows start end (year_of (number row -ℤ pos 1)) row
joins number start end year_of (Some before) row = follows start end before row

-- whether a row ends where the computed next year starts
abbrev pub ends : {Y : Type 0} → (Y → ℤ) → (Y → ℤ) → (Y → ℤ) → (ℤ → Y) → Y → Bool
ends number start end year_of row = follows start end row (year_of (number row +ℤ pos 1))

-- each row joins, and the last one ends where the computed next year starts
pub record AreJoined {Y : Type 0} (number start end : Y → ℤ) (year_of : ℤ → Y) (rows : List Y) : Type 0 where
  pub starts : (i : ℕ) (row : Y) → IsRow rows i row → joins number start end year_of (row_before rows i) row ≡ true
  pub last : (i : ℕ) (row : Y) → IsRow rows i row
      → (nat_lt (i + 1) (length rows) || ends number start end year_of row) ≡ true
