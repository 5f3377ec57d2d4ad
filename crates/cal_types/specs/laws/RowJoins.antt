-- Chosen years join where rows and computed years do.
use Rattle.std.proofs.Common.{◌≡◌, ℕ, zero, suc, ◌+◌, true, nat_lt, List, length, Option, sym, ap, subst, ◌∙◌, arith, ℤ, pos, ◌+ℤ◌, ◌-ℤ◌}
use Rattle.std.proofs.lemmas.Bool.Decides.{Decides-int_eq}
use Rattle.cal_days.proofs.Signed.{signed}
use Rattle.cal_types.specs.Rows.{IsRow, AreConsecutive, AreJoined, HasNoRow, chosen, joins, ends}
use Rattle.cal_types.specs.laws.RowLaws.{or_right, row_below, row_before-next, number-at, is_last}
use Rattle.cal_types.specs.laws.RowPlaces.{by_year, chosen-row}

module _ {Y : Type 0} (number start end : Y → ℤ) (year_of : ℤ → Y) (rows : List Y) (next : AreConsecutive number rows) (joined : AreJoined number start end year_of rows) where
  abbrev year : ℤ → Y
  year y = chosen number year_of rows y

  -- the first row starts where the computed year before it ends
  first-starts : (y : ℤ) (row : Y) → IsRow rows 0 row → number row ≡ y +ℤ pos 1 → start row ≡ end (year y)
  first-starts y row h e =
      let same : number row -ℤ pos 1 ≡ y = omega (arith, signed) in
      let met = (Decides-int_eq (start row) (end (year_of (number row -ℤ pos 1)))).0 (joined.starts 0 row h) in
      by_year number year_of rows next {P = start row ≡ end (year y)} y
      (λ j other k f c. absurd (omega (arith, signed, number-at number rows next row h j other k)))
      (λ none c. met ∙ ap (λ (z : ℤ). end (year_of z)) same ∙ ap end (sym c))

  -- each other row starts where the row before it ends
  next-starts : (y : ℤ) (i : ℕ) (row : Y) → IsRow rows (suc i) row → number row ≡ y +ℤ pos 1 → start row ≡ end (year y)
  next-starts y i row h e =
      row_below {P = start row ≡ end (year y)} rows i (suc i) row h (omega arith)
      (λ before here.
      let step = next i before row here h in
      let same : number before ≡ y = omega (arith, signed) in
      let kept : before ≡ year y = subst (λ (z : ℤ). before ≡ year z) same (sym (chosen-row number year_of rows next i before here)) in
      let known = subst (λ (b : Option Y). joins number start end year_of b row ≡ true) (row_before-next rows i before here) (joined.starts (suc i) row h) in
      (Decides-int_eq (start row) (end before)).0 known ∙ ap end kept)

  row-starts : (y : ℤ) (i : ℕ) (row : Y) → IsRow rows i row → number row ≡ y +ℤ pos 1 → start row ≡ end (year y)
  row-starts y zero row h e = first-starts y row h e
  row-starts y (suc i) row h e = next-starts y i row h e

  -- the last row ends where the computed next year starts
  last-ends : (y : ℤ) (i : ℕ) (row : Y) → IsRow rows i row → number row ≡ y → HasNoRow number rows (y +ℤ pos 1) → start (year_of (y +ℤ pos 1)) ≡ end row
  last-ends y i row h e none =
      let last = is_last number rows next i row h (subst (λ (z : ℤ). HasNoRow number rows (z +ℤ pos 1)) (sym e) none) in
      let known = or_right (nat_lt (i + 1) (length rows)) (ends number start end year_of row) (joined.last i row h) last in
      let day = (Decides-int_eq (start (year_of (number row +ℤ pos 1))) (end row)).0 known in
      subst (λ (z : ℤ). start (year_of (z +ℤ pos 1)) ≡ end row) e day

  -- a chosen year starts where the one before it ends, where the computed years do
  pub chosen-join : (y : ℤ) → start (year_of (y +ℤ pos 1)) ≡ end (year_of y) → start (year (y +ℤ pos 1)) ≡ end (year y)
  chosen-join y computed =
      by_year number year_of rows next {P = start (year (y +ℤ pos 1)) ≡ end (year y)} (y +ℤ pos 1)
      (λ i row h e c. ap start c ∙ row-starts y i row h e)
      (λ none c.
      by_year number year_of rows next {P = start (year (y +ℤ pos 1)) ≡ end (year y)} y
      (λ i row h e d. ap start c ∙ last-ends y i row h e none ∙ ap end (sym d))
      (λ no d. ap start c ∙ computed ∙ ap end (sym d)))
