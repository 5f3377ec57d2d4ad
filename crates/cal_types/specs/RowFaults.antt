-- Rows of plain numbers: which of them name years, and which parts of the test of a table they meet.
use Rattle.std.specs.Prelude.{ℕ, Bool, List, map, IsTrue}
use Rattle.cal_types.specs.Rows.{IsRow}
use Rattle.cal_errors.specs.declared.errors.TablePart.{TablePart}
use Rattle.cal_errors.specs.declared.errors.TablePart.TheVariants.{Range, Year, Join, End, Leap, Rule}

-- each row names a year
abbrev pub NameYears : {R : Type 0} → (R → Bool) → List R → Type 0
NameYears {R} names rows = (i : ℕ) (row : R) → IsRow rows i row → IsTrue (names row)

-- whether row i meets a part: Range, where its numbers name a year; another part, where that year meets it among the
-- years of the rows
abbrev pub row_meets :
    {R Y : Type 0} → (R → Bool) → (R → Y) → (List Y → ℕ → Y → TablePart → Bool) → List R → ℕ → R → TablePart → Bool
row_meets names year meets rows i row Range = names row
row_meets names year meets rows i row Year = meets (map year rows) i (year row) Year
row_meets names year meets rows i row Join = meets (map year rows) i (year row) Join
row_meets names year meets rows i row End = meets (map year rows) i (year row) End
row_meets names year meets rows i row Leap = meets (map year rows) i (year row) Leap
row_meets names year meets rows i row Rule = meets (map year rows) i (year row) Rule
