-- A year that isn't among the added rows is as good as the same under both tables, and no year far away is among them.
use Rattle.std.proofs.Common.{◌≡◌, ◌∙◌, ◌&&◌, ⊎_elim, ℕ, zero, suc, Bool, true, int_le, List, [], ◌∷◌, Option, Some, None, slice_get, refl, sym, subst, ap, arith, ℤ, pos, neg_ℤ, ◌≤ℤ◌}
use Rattle.std.specs.Prelude.{IsTrue, map}
use Rattle.std.proofs.lemmas.Option.{slice_get_cases}
use Rattle.cal_days.specs.Day.{IsBetween}
use Rattle.cal_days.proofs.Signed.{signed}
use Rattle.cal_types.specs.Rows.{IsRow, AreConsecutive, HasNoRow, chosen, is_next, row_before}
use Rattle.cal_types.specs.laws.RowLaws.{consecutive, number-at, one_row, row_below}
use Rattle.cal_types.specs.laws.RowTestLaws.{left, right}
use Rattle.cal_types.specs.laws.RowPlaces.{by_year, chosen-row, chosen-other}
use Rattle.cal_types.specs.Lengthening.{BeginWith, IsNotAdded, is_like}

-- the year of a row stands in the row's place, and nothing else does
row-mapped : {R Y : Type 0} (year : R → Y) (rows : List R) (i : ℕ) (r : R) → IsRow rows i r → IsRow (map year rows) i (year r)
row-mapped {R} {Y} year [] i r h = absurd cc
row-mapped {R} {Y} year (first ∷ rest) zero r h = let same : first ≡ r = cc in ap (λ (x : R). Some (year x)) same
row-mapped {R} {Y} year (first ∷ rest) (suc i) r h = row-mapped year rest i r h

row-of-mapped : {R Y : Type 0} (year : R → Y) (rows : List R) (i : ℕ) (y : Y) → IsRow (map year rows) i y → (r : R) × IsRow rows i r × (year r ≡ y)
row-of-mapped {R} {Y} year [] i y h = absurd cc
row-of-mapped {R} {Y} year (first ∷ rest) zero y h = (first, refl, cc)
row-of-mapped {R} {Y} year (first ∷ rest) (suc i) y h = row-of-mapped year rest i y h

-- a row that stands in a place of others has one equal to it there
one-like : {R : Type 0} (equal : R → R → Bool) (there : Option R) (row : R) → IsTrue (is_like equal there row) → (t : R) × (there ≡ Some t) × IsTrue (equal row t)
one-like equal None row h = absurd cc
one-like equal (Some t) row h = (t, refl, h)

-- `year` is the year of a row, and years of equal rows are alike
module _ {R Y : Type 0} (year : R → Y) (equal : R → R → Bool) (number : Y → ℤ) (year_of : ℤ → Y) (Alike : Y → Y → Type 0)
    (own : (y : Y) → Alike y y) (numbered : (a b : Y) → Alike a b → number a ≡ number b) (told : (a b : R) → IsTrue (equal a b) → Alike (year a) (year b))
    (old rows : List R) (before : AreConsecutive number (map year old)) (after : AreConsecutive number (map year rows)) (begin : BeginWith equal old rows) where
  -- a year among the old rows has one that is alike in its place among the new ones
  alike-row : (i : ℕ) (y : Y) → IsRow (map year old) i y → (z : Y) × IsRow (map year rows) i z × Alike y z
  alike-row i y here =
      let at = row-of-mapped year old i y here in
      let like = one-like equal (slice_get rows i) at.0 (begin i at.0 at.1) in
      (year like.0, row-mapped year rows i like.0 like.1, subst (λ (x : Y). Alike x (year like.0)) at.2 (told at.0 like.0 like.2))

  -- so no new row has a number that no old one has, but for those that are added
  none-new : (y : ℤ) → HasNoRow number (map year old) y → IsNotAdded number (map year old) (map year rows) y → HasNoRow number (map year rows) y
  none-new y none free i row here is =
      ⊎_elim
      (λ there.
      let other = alike-row i there.0 there.2 in
      none i there.0 there.2 (numbered there.0 other.0 other.2 ∙ ap number (one_row (map year rows) i other.0 row other.1 here) ∙ is))
      (λ past. free i row past.0 here is)
      ((slice_get_cases (map year old) i).1)

  pub chosen-kept : (y : ℤ) → IsNotAdded number (map year old) (map year rows) y → Alike (chosen number year_of (map year old) y) (chosen number year_of (map year rows) y)
  chosen-kept y free =
      let P : Type 0 = Alike (chosen number year_of (map year old) y) (chosen number year_of (map year rows) y) in
      by_year number year_of (map year old) before {P = P} y
      (λ i row here is c.
      let other = alike-row i row here in
      let same : number other.0 ≡ y = sym (numbered row other.0 other.2) ∙ is in
      let d : chosen number year_of (map year rows) y ≡ other.0 = subst (λ (z : ℤ). chosen number year_of (map year rows) z ≡ other.0) same (chosen-row number year_of (map year rows) after i other.0 other.1) in
      rw (c, d) other.2)
      (λ none c. rw (c, chosen-other number year_of (map year rows) after y (none-new y none free)) (own (year_of y)))

-- rows that pass the test of their numbers lie between the least number and 9999
pub number-range : {Y : Type 0} (number : Y → ℤ) (least : ℤ) (rows : List Y) → ((i : ℕ) (row : Y) → IsRow rows i row → (is_next number least (row_before rows i) row && int_le (number row) (pos 9999)) ≡ true) → (i : ℕ) (row : Y) → IsRow rows i row → IsBetween least (pos 9999) (number row)
number-range {Y} number least rows met i row here =
    let follows = consecutive number least rows (λ j r h. left (is_next number least (row_before rows j) r) (int_le (number r) (pos 9999)) (met j r h)) in
    let most = right (is_next number least (row_before rows i) row) (int_le (number row) (pos 9999)) (met i row here) in
    row_below {P = IsBetween least (pos 9999) (number row)} rows 0 i row here (omega arith)
    (λ first start.
    let low = left (is_next number least (row_before rows 0) first) (int_le (number first) (pos 9999)) (met 0 first start) in
    let from = number-at number rows follows first start i row here in
    (omega (arith, signed, low, from), omega (arith, signed, most)))

-- so no row is added for a year beyond
module _ {Y : Type 0} (number : Y → ℤ) (old rows : List Y) (range : (i : ℕ) (row : Y) → IsRow rows i row → IsBetween (pos 1) (pos 9999) (number row)) where
  pub not_added-above : (y : ℤ) → pos 8000000 ≤ℤ y → IsNotAdded number old rows y
  not_added-above y far i row past here same = absurd (omega (arith, signed, range i row here, same, far))

  pub not_added-below : (y : ℤ) → y ≤ℤ neg_ℤ (pos 8000000) → IsNotAdded number old rows y
  not_added-below y far i row past here same = absurd (omega (arith, signed, range i row here, same, far))
