-- Rows of a table are the same where their years are.
use Rattle.std.proofs.Common.{◌≡◌, Bool, ◌&&◌, List, [], ◌∷◌, refl, ap}
use Rattle.std.specs.Cmp.Lexicographic.{pointwise}
use Rattle.cal_hijri.specs.HijriList.{has_parts_of}
use Rattle.cal_hijri.specs.declared.hijri_row.HijriRow.{HijriRow}
use Rattle.cal_hijri.specs.HijriRows.{row_year, years_of, is_same_row}

-- lists of rows are the same where their years are
pub pointwise-years : (xs ys : List HijriRow) → pointwise is_same_row xs ys ≡ pointwise has_parts_of (years_of xs) (years_of ys)
pointwise-years [] [] = refl
pointwise-years [] (y ∷ ys) = refl
pointwise-years (x ∷ xs) [] = refl
pointwise-years (x ∷ xs) (y ∷ ys) = ap (λ (b : Bool). has_parts_of (row_year x) (row_year y) && b) (pointwise-years xs ys)
