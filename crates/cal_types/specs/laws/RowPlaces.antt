-- Where the row of a number stands, and which numbers have none.
use Rattle.std.proofs.Common.{◌≡◌, ℕ, ◌<◌, ⊎_elim, Bool, int_lt, cond, List, [], ◌∷◌, length, Option, None, slice_get, unsigned_abs, refl, ap, subst, ◌∙◌, arith, ℤ, pos, ◌+ℤ◌, ◌-ℤ◌, ◌<ℤ◌}
use Rattle.std.specs.Option.{unwrap_or}
use Rattle.std.proofs.lemmas.Option.{slice_get_cases, slice_get_within}
use Rattle.std.proofs.lemmas.Int.{by_lt_z}
use Rattle.cal_days.proofs.Signed.{signed, by_bool}
use Rattle.cal_types.specs.Rows.{IsRow, AreConsecutive, HasNoRow, row_of, chosen}
use Rattle.cal_types.specs.laws.RowLaws.{one_row, number-at, number-once}

-- where the row of a number stands
pub row_of-within : {Y : Type 0} (number : Y → ℤ) (rows : List Y) (first : Y) (i : ℕ) (y : ℤ) → IsRow rows 0 first → y ≡ number first +ℤ pos i → row_of number rows y ≡ slice_get rows i
row_of-within number [] first i y h e = absurd cc
row_of-within number (f ∷ rest) first i y h e =
    let same : f ≡ first = cc in
    let start : number f ≡ number first = ap number same in
    let place : unsigned_abs (y -ℤ number f) ≡ i = omega (arith, signed) in
    by_bool {P = row_of number (f ∷ rest) y ≡ slice_get (f ∷ rest) i} (int_lt y (number f))
    (λ on. absurd (omega (arith, signed)))
    (λ off. ap (λ (b : Bool). cond b None (slice_get (f ∷ rest) (unsigned_abs (y -ℤ number f)))) off ∙ ap (slice_get (f ∷ rest)) place)

-- no row is before the first row's number
row_of-below : {Y : Type 0} (number : Y → ℤ) (rows : List Y) (first : Y) (y : ℤ) → IsRow rows 0 first → y <ℤ number first → row_of number rows y ≡ None
row_of-below number [] first y h lt = refl
row_of-below number (f ∷ rest) first y h lt =
    let same : f ≡ first = cc in
    let start : number f ≡ number first = ap number same in
    by_bool {P = row_of number (f ∷ rest) y ≡ None} (int_lt y (number f))
    (λ on. ap (λ (b : Bool). cond b None (slice_get (f ∷ rest) (unsigned_abs (y -ℤ number f)))) on)
    (λ off. absurd (omega (arith, signed)))

-- a table without rows has none
row_of-empty : {Y : Type 0} (number : Y → ℤ) (rows : List Y) (y : ℤ) → slice_get rows 0 ≡ None → row_of number rows y ≡ None
row_of-empty number [] y h = refl
row_of-empty number (f ∷ rest) y h = absurd cc

module _ {Y : Type 0} (number : Y → ℤ) (year_of : ℤ → Y) (rows : List Y) (next : AreConsecutive number rows) where
  -- the same where there is a first row
  by_first : {P : Type 0} (y : ℤ) (first : Y) → IsRow rows 0 first → ((i : ℕ) (row : Y) → IsRow rows i row → number row ≡ y → chosen number year_of rows y ≡ row → P) → (HasNoRow number rows y → chosen number year_of rows y ≡ year_of y → P) → P
  by_first {P} y first here some none =
      let pick : Option Y → Y = λ o. unwrap_or o (year_of y) in
      let k = unsigned_abs (y -ℤ number first) in
      by_lt_z {P = P} y (number first)
      (λ below. none (λ i row h e. absurd (omega (arith, signed, number-at number rows next first here i row h))) (ap pick (row_of-below number rows first y here below)))
      (λ above.
      let same : y ≡ number first +ℤ pos k = omega (arith, signed) in
      let place = row_of-within number rows first k y here same in
      ⊎_elim {C = P}
      (λ there. some k there.0 there.2 (omega (arith, signed, same, number-at number rows next first here k there.0 there.2)) (ap pick (place ∙ there.2)))
      (λ past. none
      (λ i row h e.
      let within : i < length rows = slice_get_within rows i row h in
      let at = number-at number rows next first here i row h in
      absurd (omega (arith, signed)))
      (ap pick (place ∙ past.1)))
      ((slice_get_cases rows k).1))

  -- a number has a row, which is chosen, or it has none, and the computed year is chosen
  pub by_year : {P : Type 0} (y : ℤ) → ((i : ℕ) (row : Y) → IsRow rows i row → number row ≡ y → chosen number year_of rows y ≡ row → P) → (HasNoRow number rows y → chosen number year_of rows y ≡ year_of y → P) → P
  by_year {P} y some none =
      ⊎_elim {C = P}
      (λ head. by_first {P = P} y head.0 head.2 some none)
      (λ past. none
      (λ i row h e. let within : i < length rows = slice_get_within rows i row h in absurd (omega arith))
      (ap (λ (o : Option Y). unwrap_or o (year_of y)) (row_of-empty number rows y past.1)))
      ((slice_get_cases rows 0).1)

  -- the year of a row's number is that row
  pub chosen-row : (i : ℕ) (row : Y) → IsRow rows i row → chosen number year_of rows (number row) ≡ row
  chosen-row i row h =
      by_year {P = chosen number year_of rows (number row) ≡ row} (number row)
      (λ j other k e c.
      let same : j ≡ i = number-once number rows next j i other row k h e in
      c ∙ one_row rows i other row (subst (λ (n : ℕ). IsRow rows n other) same k) h)
      (λ none c. absurd (none i row h refl))

  -- a year that no row has is the computed one
  pub chosen-other : (y : ℤ) → HasNoRow number rows y → chosen number year_of rows y ≡ year_of y
  chosen-other y none =
      by_year {P = chosen number year_of rows y ≡ year_of y} y
      (λ i row h e c. absurd (none i row h e))
      (λ no c. c)

  -- chosen years have their numbers where the computed ones have
  pub chosen-number : (y : ℤ) → number (year_of y) ≡ y → number (chosen number year_of rows y) ≡ y
  chosen-number y known =
      by_year {P = number (chosen number year_of rows y) ≡ y} y
      (λ i row h e c. ap number c ∙ e)
      (λ none c. ap number c ∙ known)
