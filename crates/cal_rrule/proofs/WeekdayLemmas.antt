-- Weekdays by their place in a stretch.
use Rattle.std.proofs.Common.{◌≡◌, ◌∙◌, ℕ, ◌+◌, ◌-◌, ◌*◌, ◌/◌, ◌<◌, ◌⊎◌, ◌↔◌, ◌||◌, IsTrue, Bool, Option, Some, None, int_lt, ℤ, pos, ◌+ℤ◌, ◌≤ℤ◌, ◌<ℤ◌, sym, subst, arith}
use mathlib.Core.Logic.{inl, inr, ⊎_elim}
use Rattle.std.specs.Int.{int_rem_euclid}
use Rattle.std.proofs.lemmas.Bool.Decides.{Decides-or}
use Rattle.cal_days.specs.Division.{floor_mod}
use Rattle.cal_days.proofs.DivisionLemmas.{floor_mod-is, floor_parts}
use Rattle.cal_days.proofs.Signed.{by_bool, signed}
use Rattle.cal_types.specs.Weekday.{days_since_sunday}
use Rattle.cal_types.specs.declared.weekday.Weekday.{Weekday}
use Rattle.cal_rule.specs.Sets.{has_ordinal}
use Rattle.cal_rule.specs.declared.place_set.Place.{Place}
use Rattle.cal_rule.specs.declared.place_set.Place.TheVariants.{FromFront, FromBack}
use Rattle.cal_rule.specs.declared.weekday_places.WeekdayPlaces.{WeekdayPlaces}
use Rattle.cal_rrule.specs.Stretches.{InStretch, Stretch, end_of}
use Rattle.cal_rrule.specs.Weeks.{HasOrdinal, IsAmongWeekdays, IsNth, IsWeekday, weeks_before, weeks_behind}

-- a day that isn't in a stretch and lies before its end lies before it
before-stretch : (s : Stretch) (m : ℤ) → (InStretch s m → ⊥) → m <ℤ end_of s → m <ℤ s.first
before-stretch s m out low =
    by_bool (int_lt m s.first) (λ e. omega (arith, signed, e)) (λ e. absurd (out (omega (arith, signed, e), low)))

behind-stretch : (s : Stretch) (m : ℤ) → (InStretch s m → ⊥) → s.first ≤ℤ m → end_of s ≤ℤ m
behind-stretch s m out high =
    by_bool (int_lt m (end_of s)) (λ e. absurd (out (high, omega (arith, signed, e)))) (λ e. omega (arith, signed, e))

-- whole weeks don't change the weekday
pub same-weekday : (z n : ℤ) (k : ℕ) → n ≡ z +ℤ pos (7 * k) → floor_mod n 7 ≡ floor_mod z 7
same-weekday z n k e = omega (arith, signed, e, floor_parts z 7 (omega arith), floor_parts n 7 (omega arith))

weekday-of : (z : ℤ) (day : Weekday) → pos (days_since_sunday day) ≡ int_rem_euclid z (pos 7) →
    floor_mod z 7 ≡ days_since_sunday day
weekday-of z day e = omega (arith, signed, e ∙ floor_mod-is z 7 (omega arith))

module _ (s : Stretch) (offset week : ℕ) (n : ℤ) (low : offset < 7) (within : offset + 7 * week < s.days)
    (at : n ≡ s.first +ℤ pos (offset + 7 * week)) where
  inside : InStretch s n
  inside = (omega (arith, signed, at), omega (arith, signed, at, within))

  front-place : IsNth (InStretch s) n (FromFront (week + 1))
  front-place = (
    omega arith,
    inside,
    (omega (arith, signed, at), omega (arith, signed, at, within)),
    λ h. omega (arith, signed, at, h.0, low),
  )

  front-only : (k : ℕ) → IsNth (InStretch s) n (FromFront k) → k ≡ week + 1
  front-only k h =
      let below : weeks_before n k <ℤ s.first = before-stretch s (weeks_before n k) h.3 (omega (arith, signed, at, within)) in
      omega (arith, signed, at, low, h.0, h.2.0, below)

  back-place : (behind : ℕ) → behind ≡ (s.days - offset + 6) / 7 - week → IsNth (InStretch s) n (FromBack behind)
  back-place behind e = (
    omega (arith, e, within),
    inside,
    (omega (arith, signed, at), omega (arith, signed, at, within, e)),
    λ h. omega (arith, signed, at, h.1, e, within),
  )

  back-only : (behind k : ℕ) → behind ≡ (s.days - offset + 6) / 7 - week → IsNth (InStretch s) n (FromBack k) → k ≡ behind
  back-only behind k e h =
      let above : end_of s ≤ℤ weeks_behind n k = behind-stretch s (weeks_behind n k) h.3 (omega (arith, signed, at)) in
      omega (arith, signed, at, e, within, h.0, h.2.1, above)

  -- the three ways in which a day may be among weekdays
  pub among : (set : WeekdayPlaces) (day : Weekday) (behind : ℕ) → behind ≡ (s.days - offset + 6) / 7 - week →
      pos (days_since_sunday day) ≡ int_rem_euclid (s.first +ℤ pos offset) (pos 7) →
      IsTrue ((has_ordinal set (days_since_sunday day) None || has_ordinal set (days_since_sunday day) (Some (FromFront (week + 1))))
      || has_ordinal set (days_since_sunday day) (Some (FromBack behind)))
      ↔ IsAmongWeekdays set s n
  among set day behind e is = (
    λ h. ⊎_elim (λ p. ⊎_elim (λ q. made None q tt) (λ q. made (Some (FromFront (week + 1))) q front-place) ((either every front).0 p))
        (λ q. made (Some (FromBack behind)) q (back-place behind e)) ((either (every || front) back).0 h),
    λ h. back_again h.0.day h.0.ordinal h.1 h.2 h.3,
  )
    where
      every : Bool
      every = has_ordinal set (days_since_sunday day) None

      front : Bool
      front = has_ordinal set (days_since_sunday day) (Some (FromFront (week + 1)))

      back : Bool
      back = has_ordinal set (days_since_sunday day) (Some (FromBack behind))

      either : (a b : Bool) → IsTrue (a || b) ↔ (IsTrue a ⊎ IsTrue b)
      either a b = Decides-or a b (λ x. x, λ x. x) (λ x. x, λ x. x)

      weekday : IsWeekday day n
      weekday = same-weekday (s.first +ℤ pos offset) n week (omega (arith, signed, at)) ∙ weekday-of (s.first +ℤ pos offset) day is

      made : (ordinal : Option Place) → IsTrue (has_ordinal set (days_since_sunday day) ordinal) → HasOrdinal s n ordinal →
          IsAmongWeekdays set s n
      made ordinal has nth = (record { day = day; ordinal = ordinal }, has, weekday, nth)

      same : (other : Weekday) → IsWeekday other n → days_since_sunday other ≡ days_since_sunday day
      same other h = sym h ∙ weekday

      back_again : (other : Weekday) (ordinal : Option Place) →
          IsTrue (has_ordinal set (days_since_sunday other) ordinal) → IsWeekday other n → HasOrdinal s n ordinal →
          IsTrue ((every || front) || back)
      back_again other ordinal has h nth =
          by_ordinal ordinal (subst (λ (d : ℕ). IsTrue (has_ordinal set d ordinal)) (same other h) has) nth
        where
          by_ordinal : (o : Option Place) → IsTrue (has_ordinal set (days_since_sunday day) o) → HasOrdinal s n o →
              IsTrue ((every || front) || back)
          by_ordinal None has nth = (either (every || front) back).1 (inl ((either every front).1 (inl has)))
          by_ordinal (Some (FromFront k)) has nth =
              (either (every || front) back).1 (inl ((either every front).1 (inr
              (subst (λ (j : ℕ). IsTrue (has_ordinal set (days_since_sunday day) (Some (FromFront j)))) (front-only k nth) has))))
          by_ordinal (Some (FromBack k)) has nth =
              (either (every || front) back).1 (inr
              (subst (λ (j : ℕ). IsTrue (has_ordinal set (days_since_sunday day) (Some (FromBack j)))) (back-only behind k e nth) has))
