-- Periods that begin at or before a day.
use Rattle.std.proofs.Common.{◌≡◌, ◌∙◌, ℕ, ◌+◌, ◌-◌, ◌≤◌, Option, Some, None, sym, subst, arith, ℤ, ◌≤ℤ◌, ◌<ℤ◌}
use Rattle.std.specs.Prelude.{IfSome}
use Rattle.std.specs.Option.{ForSome}
use Rattle.cal_days.specs.Day.{IsValidDay}
use Rattle.cal_days.proofs.Signed.{signed}
use Rattle.cal_types.specs.Windows.{IsWindow}
use Rattle.recurrence_sets.specs.Listing.{ArePassed}
use Rattle.recurrence_sets.proofs.LookLemmas.{valid-within}

some-same : {A : Type 0} {x y : A} → Some x ≡ Some y → x ≡ y
some-same e = cc

none-some : {A B : Type 0} {x : A} → None ≡ Some x → B
none-some e = cc

module _ (Has : ℕ → ℤ → Type 0) (first last : ℤ) where
  -- the periods further before one with a day at or before the first of a window are passed
  pub passed-behind : IsWindow first last →
      ((i j : ℕ) (m n : ℤ) → i + 2 ≤ j → IsValidDay m → IsValidDay n → Has i m → Has j n → m <ℤ n) →
      (period : ℕ) (day : ℤ) → IsValidDay day → Has period day → day ≤ℤ first → ArePassed Has (period - 1) first last
  passed-behind window apart period day valid has early i lt n within other =
      let past = apart i period n day (omega (arith, lt)) (valid-within first last n window within) valid other has in
      omega (arith, signed, past, early, within.0)

  -- the same of a period that may have been found
  pub passed-found : IsWindow first last →
      ((i j : ℕ) (m n : ℤ) → i + 2 ≤ j → IsValidDay m → IsValidDay n → Has i m → Has j n → m <ℤ n) →
      (period : ℕ) (day : ℤ) → IsValidDay day → Has period day → (found : Option ℕ) → IfSome found (λ k. (k ≡ period) × (day ≤ℤ first)) →
      ForSome found (λ k. ArePassed Has (k - 1) first last)
  passed-found window apart period day valid has None is k e = none-some e
  passed-found window apart period day valid has (Some j) is k e =
      subst (λ (i : ℕ). ArePassed Has (i - 1) first last) (sym is.0 ∙ some-same e) (passed-behind window apart period day valid has is.1)
