-- Rows that name years still do so with one more that does.
use Rattle.std.proofs.Common.{◌≡◌, ℕ, zero, suc, Bool, List, [], ◌∷◌, ◌++◌, Option, Some, None, sym, subst}
use Rattle.std.specs.Prelude.{IfSome, IsTrue}
use Rattle.cal_types.specs.RowFaults.{NameYears}
use Rattle.table_rows.specs.RowsSaid.{IsYearKept}
use Rattle.table_rows.specs.declared.rows.Taken.{Taken}
use Rattle.table_rows.specs.declared.rows.Taken.TheVariants.{Kept, Refused, NoMemory}

module _ {R : Type 0} (names : R → Bool) where
  named-more : (row : R) → IsTrue (names row) → (rows : List R) → NameYears names rows → NameYears names (rows ++ row ∷ [])
  named-more row n [] h zero r e = let same : row ≡ r = cc in subst (λ (x : R). IsTrue (names x)) same n
  named-more row n [] h (suc i) r e = absurd cc
  named-more row n (x ∷ xs) h zero r e = h zero r e
  named-more row n (x ∷ xs) h (suc i) r e = named-more row n xs (λ j s f. h (suc j) s f) i r e

  pub kept-named : (t : Taken) (row : Option R) (old new : List R) → IfSome row (λ r. IsTrue (names r)) → IsYearKept t row old new → NameYears names old → NameYears names new
  kept-named t None old new named (e, same) h = subst (NameYears names) (sym same) h
  kept-named Kept (Some row) old new named e h = subst (NameYears names) (sym e) (named-more row named old h)
  kept-named (Refused why) (Some row) old new named e h = absurd e
  kept-named NoMemory (Some row) old new named e h = subst (NameYears names) (sym e) h
