-- Days that BYSETPOS keeps.
use Rattle.std.proofs.Common.{◌≡◌, ℕ, ◌⊎◌, ◌↔◌, IsTrue, ℤ, ◌<ℤ◌, sym, subst}
use mathlib.Core.Logic.{inl, inr}
use Rattle.cal_types.specs.CalendarList.{CalendarList, Date}
use Rattle.cal_rule.specs.Sets.{has_place}
use Rattle.cal_rule.specs.declared.place_set.Place.{Place}
use Rattle.cal_rule.specs.declared.place_set.Place.TheVariants.{FromFront, FromBack}
use Rattle.cal_rule.specs.declared.place_set.PlaceSet.{PlaceSet}
use Rattle.cal_rule.specs.declared.rule.RecurrenceRule.{RecurrenceRule}
use Rattle.cal_rrule.specs.PeriodSets.{IsKeptSet, IsPeriodSet}
use Rattle.cal_rrule.specs.Periods.{IsMissing, IsOfPeriod}
use Rattle.recurrence_sets.specs.Days.{HasPlaceAmong}
use Rattle.recurrence_sets.specs.PeriodBits.{has_day}
use Rattle.recurrence_sets.specs.declared.period_days.PeriodDays.{PeriodDays}
use Rattle.recurrence_sets.proofs.DayLemmas.{count-like}

-- places among the days of kinds that are the same
pub place-like : (P Q : ℤ → Type 0) → ((m : ℤ) → P m → Q m) → ((m : ℤ) → Q m → P m) → (n : ℤ) (p : Place) →
    HasPlaceAmong P n p → HasPlaceAmong Q n p
place-like P Q to from n (FromFront k) h =
    (h.0, h.1, count-like (λ m. P m × (m <ℤ n)) (λ m. Q m × (m <ℤ n)) h.0 (λ m p. (to m p.0, p.1)) (λ m q. (from m q.0, q.1)) h.2)
place-like P Q to from n (FromBack k) h =
    (h.0, h.1, count-like (λ m. P m × (n <ℤ m)) (λ m. Q m × (n <ℤ m)) h.0 (λ m p. (to m p.0, p.1)) (λ m q. (from m q.0, q.1)) h.2)

module _ (c : CalendarList) (rule : RecurrenceRule) (t : Date) (k : ℕ) (days : PeriodDays) (is : IsPeriodSet c rule t k days) where
  of_set : (n : ℤ) → IsTrue (has_day days n) → IsOfPeriod c rule t k n
  of_set n has = (is.exact n (is.row n has)).0 has

  to_set : (n : ℤ) → IsOfPeriod c rule t k n → IsTrue (has_day days n)
  to_set n p = (is.exact n (is.within n p)).1 p

  -- without BYSETPOS
  pub all-kept : IsMissing has_place rule.positions → IsKeptSet c rule t k days
  all-kept lacks n = (λ has. (of_set n has, inl lacks), λ p. to_set n p.0)

  -- and with it
  pub placed-kept : (positions : PlaceSet 7) (new : PeriodDays) → ¬ (IsMissing has_place rule.positions) →
      positions ≡ rule.positions →
      ((n : ℤ) → IsTrue (has_day new n) ↔ (IsTrue (has_day days n) × (p : Place) × IsTrue (has_place positions p)
      × HasPlaceAmong (λ m. IsTrue (has_day days m)) n p)) →
      IsKeptSet c rule t k new
  placed-kept positions new there same kept n = (
    λ has. let q = (kept n).0 has in (
      of_set n q.0,
      inr (
        q.1,
        subst (λ (s : PlaceSet 7). IsTrue (has_place s q.1)) same q.2,
        place-like (λ m. IsTrue (has_day days m)) (IsOfPeriod c rule t k) of_set to_set n q.1 q.3,
      ),
    ),
    λ p. (kept n).1 (by_side n p.0 p.1),
  )
    where
      by_side : (n : ℤ) → IsOfPeriod c rule t k n → IsMissing has_place rule.positions
          ⊎ ((p : Place) × IsTrue (has_place rule.positions p) × HasPlaceAmong (IsOfPeriod c rule t k) n p) →
          IsTrue (has_day days n) × (p : Place) × IsTrue (has_place positions p)
          × HasPlaceAmong (λ m. IsTrue (has_day days m)) n p
      by_side n of (inl lacks) = absurd (there lacks)
      by_side n of (inr q) = (
        to_set n of,
        q.0,
        subst (λ (s : PlaceSet 7). IsTrue (has_place s q.0)) (sym same) q.1,
        place-like (IsOfPeriod c rule t k) (λ m. IsTrue (has_day days m)) to_set of_set n q.0 q.2,
      )
