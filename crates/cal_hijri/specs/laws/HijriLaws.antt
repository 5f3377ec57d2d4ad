-- The years of rules start where the list says.
use Rattle.std.proofs.Common.{◌≡◌, ℕ, zero, suc, ◌+◌, ◌≤◌, Bool, true, if◌then◌else◌, refl, sym, ap, subst, arith, ℤ, pos, neg_ℤ, ◌+ℤ◌, ◌-ℤ◌}
use Rattle.std.specs.Prelude.{sum_by}
use Rattle.std.proofs.lemmas.Int.{by_lt_z}
use Rattle.cal_days.specs.Day.{IsRuleYear, is_between}
use Rattle.cal_days.specs.Sums.{years_up}
use Rattle.cal_days.proofs.RangeLemmas.{true-is_between}
use Rattle.cal_days.proofs.Signed.{signed}
use Rattle.cal_days.proofs.SumLemmas.{span-next, span-same}
use Rattle.cal_types.specs.CalendarList.{days_of, start_of_year, year_length}
use Rattle.cal_hijri.specs.HijriMonths.{months_of}
use Rattle.cal_hijri.specs.HijriList.{hijri_list, hijri_days, tabular_long, Joins}
use Rattle.cal_hijri.specs.declared.hijri_year.HijriYear.{HijriYear}

module _ (year_of : ℤ → HijriYear) (joins : Joins year_of) where
  length-rule : (y : ℤ) → IsRuleYear y → year_length (hijri_list year_of) y ≡ hijri_days (year_of y)
  unfolding hijri_list
  length-rule y rule =
      let inside : is_between (neg_ℤ (pos 8000000)) (pos 8000000) y ≡ true = true-is_between (neg_ℤ (pos 8000000)) (pos 8000000) y rule in
      ap (λ (b : Bool). sum_by days_of (months_of (if b then (year_of y).long_months else tabular_long y))) inside

  next : (y : ℤ) → start_of_year (hijri_list year_of) (y +ℤ pos 1) ≡ start_of_year (hijri_list year_of) y +ℤ pos (year_length (hijri_list year_of) y)
  unfolding start_of_year hijri_list
  next y = omega (arith, signed, span-next (year_length (hijri_list year_of)) (pos 1) y)

  first : start_of_year (hijri_list year_of) (pos 1) ≡ (year_of (pos 1)).first_day
  unfolding start_of_year hijri_list
  first = omega (arith, signed, span-same (year_length (hijri_list year_of)) (pos 1))

  step-up : (z y : ℤ) → z +ℤ pos 1 ≡ y → IsRuleYear z → IsRuleYear y → start_of_year (hijri_list year_of) z ≡ (year_of z).first_day → start_of_year (hijri_list year_of) y ≡ (year_of y).first_day
  step-up z y e here there known =
      subst (λ (x : ℤ). start_of_year (hijri_list year_of) x ≡ (year_of x).first_day) e
      (omega (arith, signed, next z, length-rule z here, joins z here (subst IsRuleYear (sym e) there), known))

  up : (n : ℕ) → n + 1 ≤ 8000000 → (y : ℤ) → y ≡ pos 1 +ℤ pos n → start_of_year (hijri_list year_of) y ≡ (year_of y).first_day
  up zero h y e =
      let one : pos 1 ≡ y = omega (arith, signed) in
      subst (λ (x : ℤ). start_of_year (hijri_list year_of) x ≡ (year_of x).first_day) one first
  up (suc n) h y e =
      let same : y -ℤ pos 1 +ℤ pos 1 ≡ y = omega (arith, signed) in
      step-up (y -ℤ pos 1) y same (omega (arith, signed), omega (arith, signed)) (omega (arith, signed), omega (arith, signed)) (up n (omega arith) (y -ℤ pos 1) (omega (arith, signed)))

  step-down : (y z : ℤ) → y +ℤ pos 1 ≡ z → IsRuleYear y → IsRuleYear z → start_of_year (hijri_list year_of) z ≡ (year_of z).first_day → start_of_year (hijri_list year_of) y ≡ (year_of y).first_day
  step-down y z e here there known =
      let later = subst (λ (x : ℤ). start_of_year (hijri_list year_of) x ≡ (year_of x).first_day) (sym e) known in
      omega (arith, signed, next y, length-rule y here, joins y here (subst IsRuleYear (sym e) there), later)

  down : (n : ℕ) → n ≤ 8000001 → (y : ℤ) → y +ℤ pos n ≡ pos 1 → start_of_year (hijri_list year_of) y ≡ (year_of y).first_day
  down zero h y e =
      let one : pos 1 ≡ y = omega (arith, signed) in
      subst (λ (x : ℤ). start_of_year (hijri_list year_of) x ≡ (year_of x).first_day) one first
  down (suc n) h y e =
      step-down y (y +ℤ pos 1) refl (omega (arith, signed), omega (arith, signed)) (omega (arith, signed), omega (arith, signed)) (down n (omega arith) (y +ℤ pos 1) (omega (arith, signed)))

  -- a year of the rules starts where the list says
  pub start-rule : (y : ℤ) → IsRuleYear y → start_of_year (hijri_list year_of) y ≡ (year_of y).first_day
  start-rule y rule =
      by_lt_z {P = start_of_year (hijri_list year_of) y ≡ (year_of y).first_day} y (pos 1)
      (λ lt. down (years_up (pos 1 -ℤ y)) (omega (arith, signed)) y (omega (arith, signed)))
      (λ le. up (years_up (y -ℤ pos 1)) (omega (arith, signed)) y (omega (arith, signed)))
