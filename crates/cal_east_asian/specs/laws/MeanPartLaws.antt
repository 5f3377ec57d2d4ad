-- The parts of mean years are those of years, one after another.
use Rattle.std.proofs.Common.{◌≡◌, ◌-◌, Bool, true, false, not, ◌||◌, nat_eq, refl, sym, ap, ◌∙◌, arith, ℤ, pos, ◌+ℤ◌, ◌-ℤ◌}
use Rattle.std.specs.Prelude.{sum_by}
use Rattle.std.proofs.lemmas.Bool.Decides.{nat_tests}
use Rattle.cal_days.proofs.Signed.{signed, by_bool}
use Rattle.cal_types.specs.CalendarList.{days_of}
use Rattle.cal_east_asian.specs.MeanYears.{IsOffset, leap_month, first_month, end_month, mean_months, new_year, month_total}
use Rattle.cal_east_asian.specs.laws.MeanYearLaws.{entries-count, years-join, three-years}
use Rattle.cal_east_asian.specs.laws.MeanStartLaws.{new_year-near}
use Rattle.cal_east_asian.specs.laws.MeanMonthLaws.{leap_place, place-months, mean_months-few, mean_months-parts}
use Rattle.cal_east_asian.specs.EastAsianYear.{IsNewYear, months_of_year}
use Rattle.cal_east_asian.specs.EastAsianYears.{end_of, has_leap, leap_in_three, AreValid}
use Rattle.cal_east_asian.specs.MeanParts.{mean_parts}

pub new_year-is_new_year : (o : ℤ) → IsOffset o → (y : ℤ) → IsNewYear y (new_year o y)
new_year-is_new_year o h y = let near = new_year-near o y h.0 h.1 in (omega (arith, signed, near), omega (arith, signed, near))

pub mean-valid : (o : ℤ) → IsOffset o → AreValid (mean_parts o)
mean-valid o h y rule = ((rule, (new_year-is_new_year o h y, (place-months o y).1)), mean_months-few o y)

-- the days of the months reach the next year
pub mean-end : (o y : ℤ) → new_year o (y +ℤ pos 1) ≡ end_of (mean_parts o y)
mean-end o y = years-join o y ∙ ap (λ es. new_year o y +ℤ pos (sum_by days_of es)) (sym (mean_months-parts o y))

pub month_total-place : (o y : ℤ) → month_total o y ≡ months_of_year (leap_place (leap_month o y))
unfolding mean_months
month_total-place o y = let g = leap_month o y in entries-count o y (first_month g) (end_month g - first_month g) ∙ sym (place-months o y).0

-- a year without a leap month has 12 months
twelve : (o y : ℤ) → has_leap (mean_parts o y) ≡ false → month_total o y ≡ 12
twelve o y e =
    let p = leap_place (leap_month o y) in
    let none : not (nat_eq p 0) ≡ false = e in
    let plain : months_of_year p ≡ 12 = grind (arith, nat_tests) in
    month_total-place o y ∙ plain

none_of_three : (a b d : Bool) → (a || (b || d)) ≡ false → (a ≡ false) × (b ≡ false) × (d ≡ false)
none_of_three false false false e = (refl, refl, refl)
none_of_three true b d e = absurd cc
none_of_three false true d e = absurd cc
none_of_three false false true e = absurd cc

-- no three years in a row lack a leap month
pub mean-leaps : (o y : ℤ) → leap_in_three (mean_parts o) y ≡ true
mean-leaps o y =
    by_bool {P = leap_in_three (mean_parts o) y ≡ true} (leap_in_three (mean_parts o) y)
    (λ on. on)
    (λ off.
    let none = none_of_three (has_leap (mean_parts o y)) (has_leap (mean_parts o (y -ℤ pos 1))) (has_leap (mean_parts o (y -ℤ pos 2))) off in
    let one : y -ℤ pos 2 +ℤ pos 1 ≡ y -ℤ pos 1 = omega (arith, signed) in
    let two : y -ℤ pos 2 +ℤ pos 2 ≡ y = omega (arith, signed) in
    let a : month_total o y ≡ 12 = twelve o y none.0 in
    let b : month_total o (y -ℤ pos 1) ≡ 12 = twelve o (y -ℤ pos 1) none.1 in
    let d : month_total o (y -ℤ pos 2) ≡ 12 = twelve o (y -ℤ pos 2) none.2 in
    let e : month_total o (y -ℤ pos 2 +ℤ pos 1) ≡ month_total o (y -ℤ pos 1) = ap (λ (z : ℤ). month_total o z) one in
    let f : month_total o (y -ℤ pos 2 +ℤ pos 2) ≡ month_total o y = ap (λ (z : ℤ). month_total o z) two in
    absurd (omega (arith, three-years o (y -ℤ pos 2))))
