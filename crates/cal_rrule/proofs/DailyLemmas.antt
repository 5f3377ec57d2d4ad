-- The days that DAILY keeps are those of its periods, each of which is a day.
use Rattle.std.proofs.Common.{◌≡◌, ◌∙◌, ℕ, ◌*◌, ◌⊎◌, IsTrue, ℤ, pos, ◌+ℤ◌, ◌<ℤ◌, sym, ap, subst, arith}
use mathlib.Core.Logic.{inl, inr, ⊎_elim}
use Rattle.cal_days.proofs.Signed.{by_bool, signed}
use Rattle.cal_types.specs.CalendarList.{CalendarList, Date, day_number}
use Rattle.cal_rule.specs.Sets.{has_place}
use Rattle.cal_rule.specs.declared.frequency.Frequency.{Frequency}
use Rattle.cal_rule.specs.declared.frequency.Frequency.TheVariants.{Yearly, Daily}
use Rattle.cal_rule.specs.declared.place_set.Place.{Place}
use Rattle.cal_rule.specs.declared.place_set.Place.TheVariants.{FromFront, FromBack}
use Rattle.cal_rule.specs.declared.rule.RecurrenceRule.{RecurrenceRule}
use Rattle.cal_rrule.specs.Looks.{AreMissing, CountsInMonths, IsDailyDay}
use Rattle.cal_rrule.specs.Occurrences.{IsKept}
use Rattle.cal_rrule.specs.Periods.{IsKeptDay, IsMissing, IsOfPeriod, IsOfPeriods}
use Rattle.cal_rrule.specs.declared.missing.Missing.{Missing}
use Rattle.cal_rrule.proofs.AskedLemmas.{there-by}
use Rattle.recurrence_sets.specs.Days.{HasPlaceAmong}
use Rattle.recurrence_sets.proofs.DayLemmas.{count-empty, count-unique}

module _ (Is : ℤ → Type 0) (n : ℤ) (only : (m : ℤ) → Is m → m ≡ n) where
  front-one : HasPlaceAmong Is n (FromFront 1)
  front-one = (0, omega arith, count-empty (λ m. Is m × (m <ℤ n)) (λ m p. omega (arith, signed, only m p.0, p.1)))

  back-one : HasPlaceAmong Is n (FromBack 1)
  back-one = (0, omega arith, count-empty (λ m. Is m × (n <ℤ m)) (λ m p. omega (arith, signed, only m p.0, p.1)))

  front-is : (k : ℕ) → HasPlaceAmong Is n (FromFront k) → k ≡ 1
  front-is k h =
      let none = count-unique (λ m. Is m × (m <ℤ n)) h.0 0 h.2
      (count-empty (λ m. Is m × (m <ℤ n)) (λ m p. omega (arith, signed, only m p.0, p.1))) in
      omega (arith, none, h.1)

  back-is : (k : ℕ) → HasPlaceAmong Is n (FromBack k) → k ≡ 1
  back-is k h =
      let none = count-unique (λ m. Is m × (n <ℤ m)) h.0 0 h.2
      (count-empty (λ m. Is m × (n <ℤ m)) (λ m p. omega (arith, signed, only m p.0, p.1))) in
      omega (arith, none, h.1)

-- DAILY counts weekdays in months
pub daily-months : (rule : RecurrenceRule) → rule.frequency ≡ Daily → CountsInMonths rule
daily-months rule daily h = never (sym daily ∙ h.0)
  where
    never : ◌≡◌ {A = Frequency} Daily Yearly → ⊥
    never e = cc

module _ (c : CalendarList) (rule : RecurrenceRule) (t : Date) (missing : Missing) (are : AreMissing rule missing)
    (daily : rule.frequency ≡ Daily) (start : ℤ) (at : start ≡ day_number c t) (n : ℤ) where
  of-daily : (k : ℕ) (m : ℤ) → IsOfPeriod c rule t k m → (m ≡ day_number c t +ℤ pos (k * rule.interval)) × IsKeptDay c rule m
  of-daily k m h = subst (λ (f : Frequency). IsOfPeriods f c rule t (k * rule.interval) m) daily h

  to-daily : (k : ℕ) (m : ℤ) → m ≡ day_number c t +ℤ pos (k * rule.interval) → IsKeptDay c rule m → IsOfPeriod c rule t k m
  to-daily k m is kept = subst (λ (f : Frequency). IsOfPeriods f c rule t (k * rule.interval) m) (sym daily) (is, kept)

  only : (k : ℕ) → n ≡ day_number c t +ℤ pos (k * rule.interval) → (m : ℤ) → IsOfPeriod c rule t k m → m ≡ n
  only k is m h = (of-daily k m h).0 ∙ sym is

  -- a day that DAILY keeps is kept of a period
  pub daily-kept : IsDailyDay c rule start n → (k : ℕ) × IsKept c rule t k n
  daily-kept h = (
    h.0.0,
    (
      to-daily h.0.0 n is h.1,
      by_bool missing.positions
          (λ e. inl (are.no_positions.0 e))
          (λ e. inr (⊎_elim (λ p. (FromFront 1, p, front-one (IsOfPeriod c rule t h.0.0) n (only h.0.0 is)))
          (λ p. (FromBack 1, p, back-one (IsOfPeriod c rule t h.0.0) n (only h.0.0 is)))
          (h.2 (there-by (IsMissing has_place rule.positions) missing.positions are.no_positions e)))),
    ),
  )
    where
      is : n ≡ day_number c t +ℤ pos (h.0.0 * rule.interval)
      is = h.0.1 ∙ ap (λ (m : ℤ). m +ℤ pos (h.0.0 * rule.interval)) at

  -- and a day that is kept of a period is one
  pub kept-daily : (k : ℕ) → IsKept c rule t k n → IsDailyDay c rule start n
  kept-daily k h = ((k, parts.0 ∙ ap (λ (m : ℤ). m +ℤ pos (k * rule.interval)) (sym at)), parts.1, λ there. by_side there h.1)
    where
      parts : (n ≡ day_number c t +ℤ pos (k * rule.interval)) × IsKeptDay c rule n
      parts = of-daily k n h.0

      by_place : (p : Place) → IsTrue (has_place rule.positions p) → HasPlaceAmong (IsOfPeriod c rule t k) n p →
          IsTrue (has_place rule.positions (FromFront 1)) ⊎ IsTrue (has_place rule.positions (FromBack 1))
      by_place (FromFront j) has place = inl (subst (λ (i : ℕ). IsTrue (has_place rule.positions (FromFront i)))
          (front-is (IsOfPeriod c rule t k) n (only k parts.0) j place) has)
      by_place (FromBack j) has place = inr (subst (λ (i : ℕ). IsTrue (has_place rule.positions (FromBack i)))
          (back-is (IsOfPeriod c rule t k) n (only k parts.0) j place) has)

      by_side : ¬ (IsMissing has_place rule.positions) → IsMissing has_place rule.positions
          ⊎ ((p : Place) × IsTrue (has_place rule.positions p) × HasPlaceAmong (IsOfPeriod c rule t k) n p) →
          IsTrue (has_place rule.positions (FromFront 1)) ⊎ IsTrue (has_place rule.positions (FromBack 1))
      by_side there (inl lacks) = absurd (there lacks)
      by_side there (inr q) = by_place q.0 q.1 q.2
