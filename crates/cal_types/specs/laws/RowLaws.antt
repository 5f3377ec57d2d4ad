-- The rows of a table by their index.
use Rattle.std.proofs.Common.{◌≡◌, ℕ, zero, suc, ◌+◌, ◌-◌, ◌<◌, ◌≤◌, ⊎_elim, Bool, true, false, ◌||◌, nat_eq, nat_lt, cond, List, length, Option, Some, None, slice_get, sym, ap, subst, ◌∙◌, arith, ℤ, pos, ◌+ℤ◌}
use Rattle.std.proofs.lemmas.Bool.Decides.{Decides-int_eq, nat_tests}
use Rattle.std.proofs.lemmas.Option.{slice_get_cases, slice_get_within}
use Rattle.cal_days.proofs.Signed.{signed, by_bool, by_lt}
use Rattle.cal_types.specs.Rows.{IsRow, row_before, is_next, AreConsecutive, HasNoRow}

pub or_right : (a b : Bool) → (a || b) ≡ true → a ≡ false → b ≡ true
or_right true b e f = absurd cc
or_right false b e f = e

-- an index has one row
pub one_row : {Y : Type 0} (rows : List Y) (i : ℕ) (a b : Y) → IsRow rows i a → IsRow rows i b → a ≡ b
one_row rows i a b h k = let same : Some a ≡ Some b = sym h ∙ k in cc

-- a row has a row at each index below it
pub row_below : {Y P : Type 0} (rows : List Y) (i j : ℕ) (row : Y) → IsRow rows j row → i ≤ j → ((below : Y) → IsRow rows i below → P) → P
row_below {Y} {P} rows i j row h le found =
    ⊎_elim {C = P} (λ here. found here.0 here.2)
    (λ past. let within : j < length rows = slice_get_within rows j row h in absurd (omega arith))
    ((slice_get_cases rows i).1)

-- the row before row i + 1 is row i
pub row_before-next : {Y : Type 0} (rows : List Y) (i : ℕ) (before : Y) → IsRow rows i before → row_before rows (suc i) ≡ Some before
row_before-next rows i before h =
    let off : nat_eq (suc i) 0 ≡ false = grind (arith, nat_tests) in
    let same : suc i - 1 ≡ i = omega arith in
    ap (λ (b : Bool). cond b None (slice_get rows (suc i - 1))) off ∙ ap (slice_get rows) same ∙ h

-- what holds of the rows before row n, and of row n, holds of the rows before row n + 1
pub rows_before_next : {Y : Type 0} (P : ℕ → Y → Type 0) (rows : List Y) (n : ℕ) (row : Y) → IsRow rows n row → P n row → ((i : ℕ) (r : Y) → i < n → IsRow rows i r → P i r) → (i : ℕ) (r : Y) → i < n + 1 → IsRow rows i r → P i r
rows_before_next {Y} P rows n row here known before i r h k =
    by_lt {P = P i r} i n
    (λ lt. before i r lt k)
    (λ le.
    let same : n ≡ i = omega arith in
    let moved : IsRow rows i row = subst (λ (j : ℕ). IsRow rows j row) same here in
    subst (λ (x : Y). P i x) (one_row rows i row r moved k) (subst (λ (j : ℕ). P j row) same known))

-- rows that pass the test of their numbers are consecutive
pub consecutive : {Y : Type 0} (number : Y → ℤ) (least : ℤ) (rows : List Y) → ((i : ℕ) (row : Y) → IsRow rows i row → is_next number least (row_before rows i) row ≡ true) → AreConsecutive number rows
consecutive {Y} number least rows met i before row h k =
    let known : is_next number least (Some before) row ≡ true = subst (λ (b : Option Y). is_next number least b row ≡ true) (row_before-next rows i before h) (met (suc i) row k) in
    (Decides-int_eq (number row) (number before +ℤ pos 1)).0 known

module _ {Y : Type 0} (number : Y → ℤ) (rows : List Y) (next : AreConsecutive number rows) where
  -- row i has the first row's number and i more
  pub number-at : (first : Y) → IsRow rows 0 first → (i : ℕ) (row : Y) → IsRow rows i row → number row ≡ number first +ℤ pos i
  number-at first h zero row k =
      let same : number first ≡ number row = ap number (one_row rows 0 first row h k) in
      omega (arith, signed)
  number-at first h (suc i) row k =
      row_below {P = number row ≡ number first +ℤ pos (suc i)} rows i (suc i) row k (omega arith)
      (λ before here.
      let known = number-at first h i before here in
      let step = next i before row here k in
      omega (arith, signed))

  -- rows of one number are one row
  pub number-once : (i j : ℕ) (a b : Y) → IsRow rows i a → IsRow rows j b → number a ≡ number b → i ≡ j
  number-once i j a b h k e =
      row_below {P = i ≡ j} rows 0 i a h (omega arith)
      (λ first here.
      let low = number-at first here i a h in
      let high = number-at first here j b k in
      omega (arith, signed))

  -- a row is the last one where no row has the next number
  pub is_last : (i : ℕ) (row : Y) → IsRow rows i row → HasNoRow number rows (number row +ℤ pos 1) → nat_lt (i + 1) (length rows) ≡ false
  is_last i row h none =
      by_bool {P = nat_lt (i + 1) (length rows) ≡ false} (nat_lt (i + 1) (length rows))
      (λ on.
      let below : i + 1 < length rows = grind (arith, nat_tests) in
      ⊎_elim {C = nat_lt (i + 1) (length rows) ≡ false}
      (λ there. absurd (none (suc i) there.0 there.2 (next i row there.0 h there.2)))
      (λ past. absurd (omega arith))
      ((slice_get_cases rows (suc i)).1))
      (λ off. off)
