-- Three days in a set.
use Rattle.std.proofs.Common.{◌≡◌, ◌∙◌, ◌||◌, ◌⊎◌, inl, inr, Bool, true, false, length, refl, sym, ap, arith, ℤ, pos, ◌+ℤ◌, ◌<ℤ◌}
use Rattle.std.specs.Prelude.{IsTrue, ◌↔◌}
use Rattle.std.proofs.lemmas.Int.{ints}
use Rattle.cal_days.proofs.Signed.{signed}
use Rattle.recurrence_sets.specs.PeriodBits.{has_day}
use Rattle.recurrence_sets.specs.declared.period_days.PeriodDays.{PeriodDays}
use Rattle.recurrence_sets.proofs.SetLemmas.{day-offset, offset-few}
use Rattle.recurrence_set_tests.specs.Hundreds.{IsOneOfThree, is_day}

or-cases : (a b : Bool) → (a || b) ≡ true → (a ≡ true) ⊎ (b ≡ true)
or-cases true b e = inl refl
or-cases false b e = inr e

or-first : (a b : Bool) → a ≡ true → (a || b) ≡ true
or-first true b e = refl
or-first false b e = cc

or-second : (a b : Bool) → b ≡ true → (a || b) ≡ true
or-second true b e = refl
or-second false b e = e

day-is : (day n : ℤ) → is_day day n ≡ true → n ≡ day
day-is day n e = grind (arith, ints)

is-day : (day : ℤ) → is_day day day ≡ true
is-day day = grind (arith, ints)

-- the days of a set are among 448
pub within-row : (d : PeriodDays) → length d.words ≡ 7 → (n : ℤ) → IsTrue (has_day d n) → n <ℤ (d.first +ℤ pos 448)
within-row d long n has = let o = day-offset d n has in omega (arith, signed, o.is, offset-few d long o.offset o.has)

pub three-days : (first : ℤ) (d : PeriodDays) → ((n : ℤ) → IsTrue (has_day d n) → n <ℤ (d.first +ℤ pos 448)) → d.first ≡ first →
    ((n : ℤ) → n <ℤ (first +ℤ pos 448) →
    has_day d n ≡ (is_day (first +ℤ pos 150) n || (is_day (first +ℤ pos 100) n || (is_day first n || false)))) →
    (n : ℤ) → IsTrue (has_day d n) ↔ IsOneOfThree first n
three-days first d few is days n = (out, into) where
  near : IsTrue (has_day d n) → n <ℤ (first +ℤ pos 448)
  near has = omega (arith, signed, few n has, is)

  by_first : (is_day first n ≡ true) ⊎ (false ≡ true) → IsOneOfThree first n
  by_first (inl e) = inl (day-is first n e)
  by_first (inr e) = cc

  by_second : (is_day (first +ℤ pos 100) n ≡ true) ⊎ ((is_day first n || false) ≡ true) → IsOneOfThree first n
  by_second (inl e) = inr (inl (day-is (first +ℤ pos 100) n e))
  by_second (inr e) = by_first (or-cases _ _ e)

  by_third : (is_day (first +ℤ pos 150) n ≡ true) ⊎ ((is_day (first +ℤ pos 100) n || (is_day first n || false)) ≡ true) → IsOneOfThree first n
  by_third (inl e) = inr (inr (day-is (first +ℤ pos 150) n e))
  by_third (inr e) = by_second (or-cases _ _ e)

  out : IsTrue (has_day d n) → IsOneOfThree first n
  out has = by_third (or-cases _ _ (sym (days n (near has)) ∙ has))

  into : IsOneOfThree first n → IsTrue (has_day d n)
  into (inl e) =
      days n (omega (arith, signed, e))
      ∙ or-second _ _ (or-second _ _ (or-first _ _ (ap (is_day first) e ∙ is-day first)))
  into (inr (inl e)) =
      days n (omega (arith, signed, e))
      ∙ or-second _ _ (or-first _ _ (ap (is_day (first +ℤ pos 100)) e ∙ is-day (first +ℤ pos 100)))
  into (inr (inr e)) =
      days n (omega (arith, signed, e))
      ∙ or-first _ _ (ap (is_day (first +ℤ pos 150)) e ∙ is-day (first +ℤ pos 150))
