-- Days that are added by steps, and weekdays of a stretch.
use Rattle.std.proofs.Common.{◌≡◌, ◌∙◌, ℕ, ◌+◌, ◌-◌, ◌*◌, ◌/◌, ◌%◌, ◌<◌, ◌⊎◌, ℤ, pos, negsuc, ◌+ℤ◌, ◌-ℤ◌, refl, sym, ap, subst, arith}
use mathlib.Core.Logic.{inl, inr, ⊎_elim}
use Rattle.std.proofs.lemmas.Bool.{cases_lt}
use Rattle.cal_days.proofs.Signed.{signed}
use Rattle.cal_rule.specs.declared.weekday_places.WeekdayPlaces.{WeekdayPlaces}
use Rattle.cal_rrule.specs.Masks.{Adds, IsStep, IsWeekdayAt, IsWeekdayBefore, IsWeekdayBelow, IsWeekdayFrom, IsWeekdayIn}
use Rattle.cal_rrule.specs.Stretches.{InStretch, Stretch}
use Rattle.cal_rrule.specs.Weeks.{IsAmongWeekdays}
use Rattle.cal_rrule.proofs.MaskLemmas.{adds-as, adds-none, adds-then}
use Rattle.recurrence_sets.specs.declared.period_days.PeriodDays.{PeriodDays}

-- one step more
pub step-more : (old mid new : PeriodDays) (from day : ℤ) (every count : ℕ) → Adds old mid (IsStep from every count) →
    Adds mid new (λ n. n ≡ day) → day ≡ from +ℤ pos (every * count) → Adds old new (IsStep from every (count + 1))
step-more old mid new from day every count before one is =
    adds-as old new (λ n. IsStep from every count n ⊎ (n ≡ day)) (IsStep from every (count + 1))
    (adds-then old mid new (IsStep from every count) (λ n. n ≡ day) before one)
    (λ n. (there n, λ p. back_again n p.0 p.1 p.2))
  where
    there : (n : ℤ) → IsStep from every count n ⊎ (n ≡ day) → IsStep from every (count + 1) n
    there n (inl p) = (p.0, omega (arith, p.1), p.2)
    there n (inr e) = (count, omega arith, e ∙ is)

    back_again : (n : ℤ) (k : ℕ) → k < count + 1 → n ≡ from +ℤ pos (every * k) → IsStep from every count n ⊎ (n ≡ day)
    back_again n k low at = ⊎_elim (λ less. inl (k, less, at)) (λ high. inr (last (omega (arith, low, high)))) (cases_lt k count)
      where
        last : k ≡ count → n ≡ day
        last same = at ∙ ap (λ (j : ℕ). from +ℤ pos (every * j)) same ∙ sym is

module _ (set : WeekdayPlaces) (s : Stretch) where
  -- a day that is among the weekdays, and one that isn't
  pub weekday-yes : (offset week : ℕ) (mid new : PeriodDays) (day : ℤ) → Adds mid new (λ n. n ≡ day) →
      day ≡ s.first +ℤ pos (offset + 7 * week) → IsAmongWeekdays set s (s.first +ℤ pos (offset + 7 * week)) →
      Adds mid new (IsWeekdayAt set s offset week)
  weekday-yes offset week mid new day one is among =
      adds-as mid new (λ n. n ≡ day) (IsWeekdayAt set s offset week) one
      (λ n. (λ e. (e ∙ is, subst (IsAmongWeekdays set s) (sym (e ∙ is)) among), λ p. p.0 ∙ sym is))

  pub weekday-no : (offset week : ℕ) (days : PeriodDays) →
      (IsAmongWeekdays set s (s.first +ℤ pos (offset + 7 * week)) → ⊥) → Adds days days (IsWeekdayAt set s offset week)
  weekday-no offset week days none =
      adds-none days (IsWeekdayAt set s offset week) (λ n p. none (subst (IsAmongWeekdays set s) p.0 p.1))

  -- one week more
  pub weekday-week : (offset week : ℕ) (old mid new : PeriodDays) → Adds old mid (IsWeekdayBelow set s offset week) →
      Adds mid new (IsWeekdayAt set s offset week) → Adds old new (IsWeekdayBelow set s offset (week + 1))
  weekday-week offset week old mid new before one =
      adds-as old new (λ n. IsWeekdayBelow set s offset week n ⊎ IsWeekdayAt set s offset week n)
      (IsWeekdayBelow set s offset (week + 1))
      (adds-then old mid new (IsWeekdayBelow set s offset week) (IsWeekdayAt set s offset week) before one)
      (λ n. (there n, λ p. back_again n p.0 p.1 p.2 p.3))
    where
      there : (n : ℤ) → IsWeekdayBelow set s offset week n ⊎ IsWeekdayAt set s offset week n →
          IsWeekdayBelow set s offset (week + 1) n
      there n (inl p) = (p.0, omega (arith, p.1), p.2, p.3)
      there n (inr p) = (week, omega arith, p.0, p.1)

      back_again : (n : ℤ) (k : ℕ) → k < week + 1 → n ≡ s.first +ℤ pos (offset + 7 * k) → IsAmongWeekdays set s n →
          IsWeekdayBelow set s offset week n ⊎ IsWeekdayAt set s offset week n
      back_again n k low at h =
          ⊎_elim (λ less. inl (k, less, at, h)) (λ high. inr (last (omega (arith, low, high)), h)) (cases_lt k week)
        where
          last : k ≡ week → n ≡ s.first +ℤ pos (offset + 7 * week)
          last same = at ∙ ap (λ (j : ℕ). s.first +ℤ pos (offset + 7 * j)) same

  -- all weeks of a stretch
  pub weekday-weeks : (offset weeks : ℕ) (old new : PeriodDays) → offset < 7 → weeks ≡ (s.days + 6 - offset) / 7 →
      Adds old new (IsWeekdayBelow set s offset weeks) → Adds old new (IsWeekdayFrom set s offset)
  weekday-weeks offset weeks old new low is all =
      adds-as old new (IsWeekdayBelow set s offset weeks) (IsWeekdayFrom set s offset) all
      (λ n. (λ p. (p.0, omega (arith, p.1, low, is), p.2, p.3), λ p. (p.0, omega (arith, p.1, low, is), p.2, p.3)))

  -- the days of one more of the first seven days
  pub weekday-more : (offset : ℕ) (old mid new : PeriodDays) → Adds old mid (IsWeekdayBefore set s offset) →
      Adds mid new (IsWeekdayFrom set s offset) → Adds old new (IsWeekdayBefore set s (offset + 1))
  weekday-more offset old mid new before one =
      adds-as old new (λ n. IsWeekdayBefore set s offset n ⊎ IsWeekdayFrom set s offset n) (IsWeekdayBefore set s (offset + 1))
      (adds-then old mid new (IsWeekdayBefore set s offset) (IsWeekdayFrom set s offset) before one)
      (λ n. (there n, λ p. back_again n p.0 p.1 p.2))
    where
      there : (n : ℤ) → IsWeekdayBefore set s offset n ⊎ IsWeekdayFrom set s offset n → IsWeekdayBefore set s (offset + 1) n
      there n (inl p) = (p.0, omega (arith, p.1), p.2)
      there n (inr p) = (offset, omega arith, p)

      back_again : (n : ℤ) (o : ℕ) → o < offset + 1 → IsWeekdayFrom set s o n →
          IsWeekdayBefore set s offset n ⊎ IsWeekdayFrom set s offset n
      back_again n o low h =
          ⊎_elim (λ less. inl (o, less, h)) (λ high. inr (last (omega (arith, low, high)))) (cases_lt o offset)
        where
          last : o ≡ offset → IsWeekdayFrom set s offset n
          last same = subst (λ (j : ℕ). IsWeekdayFrom set s j n) same h

  -- so many days behind the first one
  place_of_day : (n : ℤ) → InStretch s n → IsAmongWeekdays set s n → (z : ℤ) → n -ℤ s.first ≡ z → IsWeekdayBefore set s 7 n
  place_of_day n within h (pos d) e =
      (d % 7, omega arith, (d / 7, omega (arith, signed, e, within.1), omega (arith, signed, e), h))
  place_of_day n within h (negsuc d) e = absurd (omega (arith, signed, e, within.0))

  -- all days of a stretch
  pub weekday-all : (most : ℕ) (old new : PeriodDays) → most ≡ 7 → Adds old new (IsWeekdayBefore set s most) →
      Adds old new (IsWeekdayIn set s)
  weekday-all most old new seven all =
      adds-as old new (IsWeekdayBefore set s most) (IsWeekdayIn set s) all
      (λ n. (
        λ p. ((omega (arith, signed, p.2.2), omega (arith, signed, p.2.1, p.2.2)), p.2.3),
        λ p. subst (λ (m : ℕ). IsWeekdayBefore set s m n) (sym seven) (place_of_day n p.0 p.1 (n -ℤ s.first) refl),
      ))
