-- Rows of a table are the same where their years are.
use Rattle.std.proofs.Common.{◌≡◌, Bool, ◌&&◌, List, [], ◌∷◌, refl, ap}
use Rattle.std.specs.Cmp.Lexicographic.{pointwise}
use Rattle.cal_east_asian.specs.SameYears.{same_year}
use Rattle.cal_east_asian.specs.declared.east_asian_row.EastAsianRow.{EastAsianRow}
use Rattle.cal_east_asian.specs.EastAsianRows.{row_year, years_of, is_same_row}

-- lists of rows are the same where their years are
pub pointwise-years : (xs ys : List EastAsianRow) → pointwise is_same_row xs ys ≡ pointwise same_year (years_of xs) (years_of ys)
pointwise-years [] [] = refl
pointwise-years [] (y ∷ ys) = refl
pointwise-years (x ∷ xs) [] = refl
pointwise-years (x ∷ xs) (y ∷ ys) = ap (λ (b : Bool). same_year (row_year x) (row_year y) && b) (pointwise-years xs ys)
