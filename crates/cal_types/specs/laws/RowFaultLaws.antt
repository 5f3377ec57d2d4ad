-- Rows that name years are accepted exactly where their years are, and have the same first fault.
use Rattle.std.proofs.Common.{◌≡◌, ℕ, ◌<◌, Bool, true, false, List, Option, Some, None, slice_get, refl, sym, ap, ◌∙◌, subst, arith}
use Rattle.std.specs.Prelude.{IsTrue, map}
use Rattle.std.specs.Option.{option_map}
use Rattle.std.proofs.lemmas.Option.{slice_get-map}
use Rattle.cal_types.specs.Rows.{IsRow}
use Rattle.cal_types.specs.Faults.{rank, MeetsAll, IsAccepted, IsFirstBroken, IsFirstFault}
use Rattle.cal_types.specs.RowFaults.{NameYears, row_meets}
use Rattle.cal_errors.specs.declared.errors.TableFault.{TableFault}
use Rattle.cal_errors.specs.declared.errors.TablePart.{TablePart}
use Rattle.cal_errors.specs.declared.errors.TablePart.TheVariants.{Range, Year, Join, End, Leap, Rule}

differ : {P : Type 0} (b : Bool) → b ≡ true → b ≡ false → P
differ b on off = let e : true ≡ false = sym on ∙ off in absurd cc

-- the row that a year is of
row_of_year : {R Y : Type 0} (year : R → Y) (o : Option R) (y : Y) → option_map year o ≡ Some y → (row : R) × (o ≡ Some row) × (year row ≡ y)
row_of_year year None y e = absurd cc
row_of_year year (Some row) y e = (row, refl, let same : Some (year row) ≡ Some y = e in cc)

module _ {R Y : Type 0} (names : R → Bool) (year : R → Y) (meets : List Y → ℕ → Y → TablePart → Bool) (in_range : (ys : List Y) (i : ℕ) (y : Y) → IsTrue (meets ys i y Range)) (rows : List R) where
  abbrev by_row : ℕ → R → TablePart → Bool
  by_row = row_meets names year meets rows

  abbrev by_year : ℕ → Y → TablePart → Bool
  by_year = meets (map year rows)

  -- a row that names a year meets the parts that its year meets
  row_from : (i : ℕ) (row : R) → IsTrue (names row) → (e : TablePart) → IsTrue (by_year i (year row) e) → IsTrue (by_row i row e)
  row_from i row n Range h = n
  row_from i row n Year h = h
  row_from i row n Join h = h
  row_from i row n End h = h
  row_from i row n Leap h = h
  row_from i row n Rule h = h

  year_from : (i : ℕ) (row : R) (e : TablePart) → IsTrue (by_row i row e) → IsTrue (by_year i (year row) e)
  year_from i row Range h = in_range (map year rows) i (year row)
  year_from i row Year h = h
  year_from i row Join h = h
  year_from i row End h = h
  year_from i row Leap h = h
  year_from i row Rule h = h

  pub row-meets : (i : ℕ) (row : R) → IsTrue (names row) → MeetsAll (by_year i (year row)) → MeetsAll (by_row i row)
  row-meets i row n met e = row_from i row n e (met e)

  -- a row that names no year breaks Range first
  pub range-broken : (i : ℕ) (row : R) → names row ≡ false → IsFirstBroken (by_row i row) Range
  range-broken i row off = (off, λ e lt. absurd (omega (arith, lt)))

  -- and one that names a year breaks the part first that its year does
  pub row-broken : (i : ℕ) (row : R) (part : TablePart) → IsTrue (names row) → IsFirstBroken (by_year i (year row)) part → IsFirstBroken (by_row i row) part
  row-broken i row Range n (b, earlier) = differ (by_year i (year row) Range) (in_range (map year rows) i (year row)) b
  row-broken i row Year n (b, earlier) = (b, λ e lt. row_from i row n e (earlier e lt))
  row-broken i row Join n (b, earlier) = (b, λ e lt. row_from i row n e (earlier e lt))
  row-broken i row End n (b, earlier) = (b, λ e lt. row_from i row n e (earlier e lt))
  row-broken i row Leap n (b, earlier) = (b, λ e lt. row_from i row n e (earlier e lt))
  row-broken i row Rule n (b, earlier) = (b, λ e lt. row_from i row n e (earlier e lt))

  year_broken : (i : ℕ) (row : R) (part : TablePart) → IsTrue (names row) → IsFirstBroken (by_row i row) part → IsFirstBroken (by_year i (year row)) part
  year_broken i row Range n (b, earlier) = differ (names row) n b
  year_broken i row Year n (b, earlier) = (b, λ e lt. year_from i row e (earlier e lt))
  year_broken i row Join n (b, earlier) = (b, λ e lt. year_from i row e (earlier e lt))
  year_broken i row End n (b, earlier) = (b, λ e lt. year_from i row e (earlier e lt))
  year_broken i row Leap n (b, earlier) = (b, λ e lt. year_from i row e (earlier e lt))
  year_broken i row Rule n (b, earlier) = (b, λ e lt. year_from i row e (earlier e lt))

  -- the year of a row stands in its place
  pub year-there : (i : ℕ) (row : R) → IsRow rows i row → IsRow (map year rows) i (year row)
  year-there i row h = slice_get-map year rows i ∙ ap (option_map year) h

  row_there : (i : ℕ) (y : Y) → IsRow (map year rows) i y → (row : R) × IsRow rows i row × (year row ≡ y)
  row_there i y h = row_of_year year (slice_get rows i) y (sym (slice_get-map year rows i) ∙ h)

  -- what is accepted as rows names years, and these are accepted
  pub accepted-named : IsAccepted by_row rows → NameYears names rows
  accepted-named accepted i row h = accepted i row h Range

  pub accepted-years : IsAccepted by_row rows → IsAccepted by_year (map year rows)
  accepted-years accepted i y h =
      let found = row_there i y h in
      subst (λ (x : Y). MeetsAll (by_year i x)) found.2 (λ e. year_from i found.0 e (accepted i found.0 found.1 e))

  -- and the other way round
  pub accepted-rows : NameYears names rows → IsAccepted by_year (map year rows) → IsAccepted by_row rows
  accepted-rows named accepted i row h = row-meets i row (named i row h) (accepted i (year row) (year-there i row h))

  -- the first fault of rows that name years is that of their years
  pub fault-years : NameYears names rows → (fault : TableFault) → IsFirstFault by_row rows fault → IsFirstFault by_year (map year rows) fault
  fault-years named fault (i, n, (row, there, broken), before) =
      (i, n, (year row, year-there i row there, year_broken i row fault.part (named i row there) broken), λ j y lt h. earlier j y lt h)
    where
      earlier : (j : ℕ) (y : Y) → j < i → IsRow (map year rows) j y → MeetsAll (by_year j y)
      earlier j y lt h =
          let found = row_there j y h in
          subst (λ (x : Y). MeetsAll (by_year j x)) found.2 (λ e. year_from j found.0 e (before j found.0 lt found.1 e))
