-- Laws of row lines and of the tables of rows.
use Rattle.std.specs.Prelude.{◌≡◌, ℕ, List, ◌⊎◌}
use Rattle.cal_errors.specs.declared.errors.TableFault.{TableFault}
use Rattle.table_rows.specs.RowLines.{RowsEnd, EndRows}
use Rattle.table_rows.specs.TableRows.{TableRows, AreAccepted, IsFirstRefused}
use Rattle.table_rows.specs.declared.table.Table.{Table}

-- the row lines end with the lines, or at one of them
abbrev pub EveryTextEnds : Type 0
EveryTextEnds = (lines : List (List ℕ)) → (end : RowsEnd) × (rows : TableRows) × EndRows end lines rows

-- the row lines give the same rows and end at the same place
abbrev pub EndsAreUnique : Type 0
EndsAreUnique =
    (lines : List (List ℕ)) (d e : RowsEnd) (r q : TableRows) → EndRows d lines r → EndRows e lines q
    → (d ≡ e) × (r ≡ q)

-- the tables of rows are accepted, or there is a first refused one with its fault; not both, and no two
pub record TablesAreDecided : Type 0 where
  pub decided : (rows : TableRows)
      → AreAccepted rows ⊎ ((table : Table) × (fault : TableFault) × IsFirstRefused rows table fault)
  pub not_both : (rows : TableRows) (table : Table) (fault : TableFault) → IsFirstRefused rows table fault
      → AreAccepted rows → ⊥
  pub one : (rows : TableRows) (s t : Table) (f g : TableFault) → IsFirstRefused rows s f → IsFirstRefused rows t g
      → (s ≡ t) × (f ≡ g)
