-- The place of a month of a Hebrew year, in closed form.
use Rattle.std.proofs.Common.{◌≡◌, ℕ, ◌≤◌, Bool, true, false, Option, Some, Result, Ok, refl, subst, ap, ◌∙◌, arith, ℤ}
use Rattle.std.specs.Prelude.{ok_or, if◌then◌else◌}
use Rattle.std.proofs.lemmas.Bool.Decides.{nat_tests}
use Rattle.cal_days.specs.Hebrew.{hebrew_leap, hebrew_year_length}
use Rattle.cal_types.specs.Month.{MonthParts}
use Rattle.cal_errors.specs.declared.errors.MonthError.{MonthError}
use Rattle.cal_errors.specs.declared.errors.MonthError.TheVariants.{NotInYear}
use Rattle.cal_types.specs.declared.options.Overflow.{Overflow}
use Rattle.cal_types.specs.declared.options.Overflow.TheVariants.{Constrain, Reject}
use Rattle.cal_types.specs.CalendarList.{spot, place_of, first_of_two}
use Rattle.cal_types.proofs.MonthCases.{by_month}
use Rattle.cal_arith.specs.Places.{ordinal_month}
use Rattle.cal_hebrew.specs.HebrewList.{hebrew_months, hebrew_list, hebrew_stand_in, is_hebrew_month, fifth_leap_month}
use Rattle.cal_hebrew.specs.laws.HebrewMonths.{month_of, place_in, is_of_kind-hebrew}
use Rattle.cal_hebrew.specs.HebrewPlaces.{hebrew_place, leap_month_place, plain_month_place}

abbrev spot_in : Bool → ℕ → MonthParts → Overflow → Option ℕ
spot_in leap n m Reject = place_in (hebrew_months leap n) m
spot_in leap n m Constrain = first_of_two (place_in (hebrew_months leap n) m) (place_in (hebrew_months leap n) (hebrew_stand_in m))

spot-in : (y : ℤ) (m : MonthParts) (o : Overflow) → spot hebrew_list y m o ≡ spot_in (hebrew_leap y) (hebrew_year_length y) m o
unfolding hebrew_list spot place_of
spot-in y m Reject = refl
spot-in y m Constrain = refl

abbrev IsPlain : Bool → ℕ → Overflow → ℕ → Type 0
IsPlain leap n o k = spot_in leap n (month_of k false) o ≡ Some (plain_month_place leap k)

plain-in : (leap : Bool) (n : ℕ) (o : Overflow) (k : ℕ) → 1 ≤ k → k ≤ 12 → IsPlain leap n o k
plain-in false n Reject = by_month (IsPlain false n Reject) refl refl refl refl refl refl refl refl refl refl refl refl
plain-in false n Constrain = by_month (IsPlain false n Constrain) refl refl refl refl refl refl refl refl refl refl refl refl
plain-in true n Reject = by_month (IsPlain true n Reject) refl refl refl refl refl refl refl refl refl refl refl refl
plain-in true n Constrain = by_month (IsPlain true n Constrain) refl refl refl refl refl refl refl refl refl refl refl refl

leap-in : (leap : Bool) (n : ℕ) (o : Overflow) → ok_or (spot_in leap n fifth_leap_month o) NotInYear ≡ leap_month_place leap o
leap-in false n Reject = refl
leap-in false n Constrain = refl
leap-in true n Reject = refl
leap-in true n Constrain = refl

abbrev place_by : Bool → MonthParts → Overflow → Result ℕ MonthError
place_by leap m o = if m.is_leap then leap_month_place leap o else Ok (plain_month_place leap m.number)

known-in : (leap : Bool) (n : ℕ) (o : Overflow) (k : ℕ) (is_leap : Bool) → is_hebrew_month (month_of k is_leap) ≡ true → ok_or (spot_in leap n (month_of k is_leap) o) NotInYear ≡ place_by leap (month_of k is_leap) o
known-in leap n o k false h = ap (λ (r : Option ℕ). ok_or r NotInYear) (plain-in leap n o k (grind (arith, nat_tests)) (grind (arith, nat_tests)))
known-in leap n o k true h = let five : 5 ≡ k = grind (arith, nat_tests) in subst (λ (x : ℕ). ok_or (spot_in leap n (month_of x true) o) NotInYear ≡ leap_month_place leap o) five (leap-in leap n o)

module _ (y : ℤ) (m : MonthParts) (o : Overflow) where
  place-by : (b : Bool) → is_hebrew_month m ≡ b → ordinal_month hebrew_list y m o ≡ hebrew_place (hebrew_leap y) m o
  place-by true h = rw (is_of_kind-hebrew m ∙ h, h) (ap (λ (r : Option ℕ). ok_or r NotInYear) (spot-in y m o) ∙ known-in (hebrew_leap y) (hebrew_year_length y) o m.number m.is_leap h)
  place-by false h = rw (is_of_kind-hebrew m ∙ h, h) refl

  pub ordinal_month-hebrew : ordinal_month hebrew_list y m o ≡ hebrew_place (hebrew_leap y) m o
  ordinal_month-hebrew = place-by (is_hebrew_month m) refl
