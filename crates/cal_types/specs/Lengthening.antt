-- Which rows lengthen a table, and which fault any others have.
use Rattle.std.specs.Prelude.{◌≡◌, ◌≢◌, ℕ, ◌+◌, ◌<◌, ◌≤◌, Bool, false, List, Option, Some, None, length, slice_get, IsTrue, ℤ}
use Rattle.cal_types.specs.Rows.{IsRow}
use Rattle.cal_errors.specs.declared.errors.TableFault.{TableFault}
use Rattle.cal_errors.specs.declared.errors.LengthenFault.{LengthenFault}
use Rattle.cal_errors.specs.declared.errors.LengthenFault.TheVariants.{Differs, Table}

-- whether a row is there and equal to another one; `equal` tells which rows are equal
abbrev pub is_like : {R : Type 0} → (R → R → Bool) → Option R → R → Bool
is_like equal None row = false
is_like equal (Some there) row = equal row there

-- whether rows have one equal to a row in place i
abbrev pub stands_in : {R : Type 0} → (R → R → Bool) → List R → ℕ → R → Bool
stands_in equal rows i row = is_like equal (slice_get rows i) row

-- the new rows begin with the old ones
abbrev pub BeginWith : {R : Type 0} → (R → R → Bool) → List R → List R → Type 0
BeginWith {R} equal old rows = (i : ℕ) (row : R) → IsRow old i row → IsTrue (stands_in equal rows i row)

-- the first of the old rows, counted from 1, that the new ones haven't in its place
abbrev pub IsFirstDifference : {R : Type 0} → (R → R → Bool) → List R → List R → ℕ → Type 0
IsFirstDifference {R} equal old rows row =
    (i : ℕ) × (row ≡ i + 1) × ((r : R) × IsRow old i r × (stands_in equal rows i r ≡ false))
    × ((j : ℕ) (r : R) → j < i → IsRow old j r → IsTrue (stands_in equal rows j r))

-- the new rows lengthen the old ones: they begin with them, and are accepted as a table's rows
abbrev pub Lengthens : {R : Type 0} → (R → R → Bool) → (List R → Type 0) → List R → List R → Type 0
Lengthens equal accepted old rows = BeginWith equal old rows × accepted rows

-- a fault names the first row that differs, and where there is none the first fault of the new rows
abbrev pub IsLengthenFault :
    {R : Type 0} → (R → R → Bool) → (List R → TableFault → Type 0) → List R → List R → LengthenFault → Type 0
IsLengthenFault equal first_fault old rows (Differs row) = IsFirstDifference equal old rows row
IsLengthenFault equal first_fault old rows (Table fault) = BeginWith equal old rows × first_fault rows fault

-- no row behind the old ones has the number
abbrev pub IsNotAdded : {Y : Type 0} → (Y → ℤ) → List Y → List Y → ℤ → Type 0
IsNotAdded {Y} number old rows y = (i : ℕ) (row : Y) → length old ≤ i → IsRow rows i row → number row ≢ y
