-- Which rows of a table are accepted, and which fault any others have.
use Rattle.std.specs.Prelude.{◌≡◌, ℕ, ◌+◌, ◌<◌, Bool, false, List, IsTrue}
use Rattle.cal_types.specs.Rows.{IsRow}
use Rattle.cal_errors.specs.declared.errors.TablePart.{TablePart}
use Rattle.cal_errors.specs.declared.errors.TablePart.TheVariants.{Range, Year, Join, End, Leap, Rule}
use Rattle.cal_errors.specs.declared.errors.TableFault.{TableFault}

-- the order of the parts
abbrev pub rank : TablePart → ℕ
rank Range = 0
rank Year = 1
rank Join = 2
rank End = 3
rank Leap = 4
rank Rule = 5

-- a row meets each part; `meets` tells which parts it meets
abbrev pub MeetsAll : (TablePart → Bool) → Type 0
MeetsAll meets = (part : TablePart) → IsTrue (meets part)

-- the first part of a row that breaks
abbrev pub IsFirstBroken : (TablePart → Bool) → TablePart → Type 0
IsFirstBroken meets part =
    (meets part ≡ false) × ((earlier : TablePart) → rank earlier < rank part → IsTrue (meets earlier))

-- rows are accepted where each of them meets each part; `meets` tells which parts row i meets
abbrev pub IsAccepted : {Y : Type 0} → (ℕ → Y → TablePart → Bool) → List Y → Type 0
IsAccepted {Y} meets rows = (i : ℕ) (row : Y) → IsRow rows i row → MeetsAll (meets i row)

-- a fault names the first row, counted from 1, that breaks a part, and its first part that breaks
abbrev pub IsFirstFault : {Y : Type 0} → (ℕ → Y → TablePart → Bool) → List Y → TableFault → Type 0
IsFirstFault {Y} meets rows fault =
    (i : ℕ) × (fault.row ≡ i + 1) × ((row : Y) × IsRow rows i row × IsFirstBroken (meets i row) fault.part)
    × ((j : ℕ) (row : Y) → j < i → IsRow rows j row → MeetsAll (meets j row))
