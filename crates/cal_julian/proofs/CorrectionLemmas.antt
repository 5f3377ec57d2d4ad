-- Years are accepted exactly where they rise and each of them may be corrected.
use Rattle.std.proofs.Common.{◌≡◌, ℕ, zero, suc, ◌<◌, Bool, true, false, List, [], ◌∷◌, length, get_or, Option, Some, slice_get, refl, sym, ap, subst, ◌∙◌, arith, ℤ, pos, ◌<ℤ◌}
use Rattle.std.specs.Prelude.{int_lt}
use Rattle.std.specs.List.{list_all}
use Rattle.std.proofs.lemmas.List.Folds.{list_all_at}
use Rattle.std.proofs.lemmas.Option.{slice_get-get_or, slice_get_within, get_or_from_slice_get}
use Rattle.cal_days.specs.Day.{is_between}
use Rattle.cal_days.specs.Persian.{persian_leap}
use Rattle.cal_days.proofs.Signed.{signed, by_bool, by_lt}
use Rattle.cal_types.proofs.DateTests.{and-left, and-right, true-and}
use Rattle.cal_types.specs.laws.RowLaws.{row_before-next}
use Rattle.cal_julian.specs.PersianAccepted.{IsListed, year_before, is_above, AreCorrections}
use Rattle.cal_julian.specs.PersianRule.{AreCorrectable, IsRising, is_correctable}
use Rattle.cal_errors.specs.declared.errors.TablePart.TheVariants.{Range, Year, Join, End, Leap, Rule}

differ : {P : Type 0} (b : Bool) → b ≡ true → b ≡ false → P
differ b on off = let e : true ≡ false = sym on ∙ off in absurd cc

-- a test that each element passes
all_pass : {X : Type 0} (p : X → Bool) (xs : List X) → ((i : ℕ) (x : X) → slice_get xs i ≡ Some x → p x ≡ true) → list_all p xs ≡ true
all_pass p [] h = refl
all_pass p (x ∷ xs) h = true-and (p x) (list_all p xs) (h 0 x refl) (all_pass p xs (λ i y e. h (suc i) y e))

each_passes : {X : Type 0} (p : X → Bool) (xs : List X) → list_all p xs ≡ true → (i : ℕ) (x : X) → slice_get xs i ≡ Some x → p x ≡ true
each_passes p xs h i x e =
    by_bool (p x)
    (λ on. on)
    (λ off.
    let same = get_or_from_slice_get xs i x x e in
    differ (list_all p xs) h (list_all_at p xs i x (slice_get_within xs i x e) (ap p same ∙ off)))

module _ (years : List ℤ) (accepted : AreCorrections years) where
  next_above : (i : ℕ) (before y : ℤ) → IsListed years i before → IsListed years (suc i) y → before <ℤ y
  next_above i before y h k =
      let year = and-right (is_between (pos 1) (pos 9999) y) (is_above (year_before years (suc i)) y) (accepted (suc i) y k Year) in
      let above : int_lt before y ≡ true = subst (λ (b : Option ℤ). is_above b y ≡ true) (row_before-next years i before h) year in
      omega (arith, signed)

  rising_to : (i j : ℕ) (d : ℤ) → i < j → j < length years → get_or years i d <ℤ get_or years j d
  rising_to i zero d lt within = absurd (omega arith)
  rising_to i (suc j) d lt within =
      let near : j < length years = omega arith in
      let step = next_above j (get_or years j d) (get_or years (suc j) d) (slice_get-get_or years j d near) (slice_get-get_or years (suc j) d within) in
      by_lt i j
      (λ before. let below = rising_to i j d before near in omega (arith, signed))
      (λ here. let same : i ≡ j = omega arith in rw same step)

  pub accepted-rising : IsRising years
  accepted-rising i j d lt within = rising_to i j d lt within

  pub accepted-correctable : AreCorrectable years
  accepted-correctable =
      all_pass is_correctable years
      (λ i y h.
      let year = and-left (is_between (pos 1) (pos 9999) y) (is_above (year_before years i) y) (accepted i y h Year) in
      true-and (is_between (pos 1) (pos 9999) y) (persian_leap y) year (accepted i y h Rule))

module _ (years : List ℤ) (rising : IsRising years) (known : AreCorrectable years) where
  above : (i : ℕ) (y : ℤ) → IsListed years i y → is_above (year_before years i) y ≡ true
  above zero y h = refl
  above (suc i) y h =
      let within : suc i < length years = slice_get_within years (suc i) y h in
      let near : i < length years = omega arith in
      let before = get_or years i y in
      let here : get_or years (suc i) y ≡ y = get_or_from_slice_get years (suc i) y y h in
      let lower : before <ℤ get_or years (suc i) y = rising i (suc i) y (omega arith) within in
      let test : int_lt before y ≡ true = by_bool (int_lt before y) (λ on. on) (λ off. absurd (omega (arith, signed))) in
      rw (row_before-next years i before (slice_get-get_or years i y near)) test

  -- years that rise and may be corrected are accepted
  pub rising-accepted : AreCorrections years
  rising-accepted i y h Range = refl
  rising-accepted i y h Year =
      let may = each_passes is_correctable years known i y h in
      true-and (is_between (pos 1) (pos 9999) y) (is_above (year_before years i) y) (and-left (is_between (pos 1) (pos 9999) y) (persian_leap y) may) (above i y h)
  rising-accepted i y h Join = refl
  rising-accepted i y h End = refl
  rising-accepted i y h Leap = refl
  rising-accepted i y h Rule = and-right (is_between (pos 1) (pos 9999) y) (persian_leap y) (each_passes is_correctable years known i y h)
