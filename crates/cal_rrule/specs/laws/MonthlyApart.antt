-- The days of MONTHLY's periods are before those of the periods behind the next one.
use Rattle.std.proofs.Common.{◌≡◌, ℕ, ◌+◌, ◌*◌, ◌≤◌, ◌<◌, int_lt, ℤ, pos, ◌+ℤ◌, ◌≤ℤ◌, ◌<ℤ◌, subst, arith}
use mathlib.Core.Logic.{inl, inr}
use Rattle.std.proofs.Math.Nat.{add-mul}
use Rattle.std.proofs.lemmas.Nat.{mul-le}
use Rattle.cal_days.proofs.Signed.{by_bool, signed}
use Rattle.cal_types.specs.CalendarList.{CalendarList, Date, IsLawful, IsMonthsAfter, date, day_number}
use Rattle.cal_rule.specs.declared.frequency.Frequency.{Frequency}
use Rattle.cal_rule.specs.declared.frequency.Frequency.TheVariants.{Monthly}
use Rattle.cal_rule.specs.declared.place_set.Place.{Place}
use Rattle.cal_rule.specs.declared.place_set.Place.TheVariants.{FromFront, FromBack}
use Rattle.cal_rule.specs.declared.rule.RecurrenceRule.{RecurrenceRule}
use Rattle.cal_rule.specs.declared.skip.Skip.{Skip}
use Rattle.cal_rule.specs.declared.skip.Skip.TheVariants.{Omit, Backward, Forward}
use Rattle.cal_rrule.specs.Looks.{Reaches}
use Rattle.cal_rrule.specs.Occurrences.{IsKept}
use Rattle.cal_rrule.specs.Periods.{IsNamedInMonth, IsOfPeriods, NoMonthDays, NoWeekdays}
use Rattle.cal_rrule.specs.Stretches.{InStretch, NamesDay, Stretch, end_of, month_stretch}
use Rattle.cal_rrule.specs.laws.MonthOrder.{month-after_next}

-- a day of a stretch is within reach of it
pub in_reach : (skip : Skip) (s : Stretch) (n : ℤ) → InStretch s n → Reaches skip s n
in_reach Omit s n h = h
in_reach Backward s n h = (omega (arith, signed, h.0), h.1)
in_reach Forward s n h = (h.0, omega (arith, signed, h.1))

-- and so is a named day
pub named-reach : (skip : Skip) (s : Stretch) (d : Place) (n : ℤ) → NamesDay skip s d n → Reaches skip s n
named-reach skip s (FromFront d) n (inl p) = in_reach skip s n (omega (arith, signed, p.0, p.2), omega (arith, signed, p.1, p.2))
named-reach skip s (FromBack d) n (inl p) = in_reach skip s n (omega (arith, signed, p.1, p.2), omega (arith, signed, p.0, p.2))
named-reach Omit s (FromFront d) n (inr p) = absurd p.1
named-reach Omit s (FromBack d) n (inr p) = absurd p.1
named-reach Backward s (FromFront d) n (inr p) = (omega (arith, signed, p.1), omega (arith, signed, p.1))
named-reach Backward s (FromBack d) n (inr p) = (omega (arith, signed, p.1), omega (arith, signed, p.1))
named-reach Forward s (FromFront d) n (inr p) = (omega (arith, signed, p.1), omega (arith, signed, p.1))
named-reach Forward s (FromBack d) n (inr p) = (omega (arith, signed, p.1), omega (arith, signed, p.1))

-- the month of a period, and what is named in it
pub of-monthly : (c : CalendarList) (rule : RecurrenceRule) (t : Date) (k : ℕ) (n : ℤ) → rule.frequency ≡ Monthly → IsKept c rule t k n →
    (found : ℤ × ℕ) × IsMonthsAfter c t.year t.month (pos (k * rule.interval)) found.0 found.1 × IsNamedInMonth c rule t found n
of-monthly c rule t k n monthly kept = subst (λ (f : Frequency). IsOfPeriods f c rule t (k * rule.interval) n) monthly kept.0

-- what a month names is within reach of it
pub named-reaches : (c : CalendarList) (rule : RecurrenceRule) (t : Date) (found : ℤ × ℕ) (n : ℤ) → IsNamedInMonth c rule t found n →
    (Reaches rule.skip (month_stretch c found) n → ⊥) → ⊥
named-reaches c rule t found n named far =
    let there : NoMonthDays rule → ⊥ = λ lacks. far (in_reach rule.skip (month_stretch c found) n (named.within lacks (some lacks))) in
    let by = named.month_day there in
    far (named-reach rule.skip (month_stretch c found) by.0 n by.2)
  where
    some : NoMonthDays rule → NoWeekdays rule → ⊥
    some lacks none = far (named-reach rule.skip (month_stretch c found) (FromFront t.day) n (named.start_day lacks none))

-- days within reach of stretches that a day lies between
apart-reach : (skip : Skip) (a b : Stretch) (m n : ℤ) → (end_of a +ℤ pos 1) ≤ℤ b.first → Reaches skip a m → Reaches skip b n → m <ℤ n
apart-reach Omit a b m n far one two = omega (arith, signed, far, one.1, two.0)
apart-reach Backward a b m n far one two = omega (arith, signed, far, one.1, two.0)
apart-reach Forward a b m n far one two = omega (arith, signed, far, one.1, two.0)

two-more : (i j e : ℕ) → 0 < e → i + 2 ≤ j → i * e + 2 ≤ j * e
two-more i j e some order =
    let product : (i + 2) * e ≤ j * e = mul-le (i + 2) e j e order (omega arith) in
    let split : (i + 2) * e ≡ i * e + 2 * e = add-mul i 2 e in
    omega (arith, product, split, some)

-- the days of a period of MONTHLY are before those of the periods behind the next one
pub monthly-apart : (c : CalendarList) → IsLawful c → (rule : RecurrenceRule) (t : Date) → rule.frequency ≡ Monthly → 0 < rule.interval →
    (i j : ℕ) (m n : ℤ) → i + 2 ≤ j → IsKept c rule t i m → IsKept c rule t j n → m <ℤ n
monthly-apart c law rule t monthly every i j m n order one two =
    by_bool (int_lt m n) (λ e. omega (arith, signed, e))
    (λ e. absurd (named-reaches c rule t first.0 m first.2 (λ here.
    named-reaches c rule t second.0 n second.2 (λ there.
    let before = apart-reach rule.skip (month_stretch c first.0) (month_stretch c second.0) m n far here there in
    omega (arith, signed, e, before)))))
  where
    first : (found : ℤ × ℕ) × IsMonthsAfter c t.year t.month (pos (i * rule.interval)) found.0 found.1 × IsNamedInMonth c rule t found m
    first = of-monthly c rule t i m monthly one

    second : (found : ℤ × ℕ) × IsMonthsAfter c t.year t.month (pos (j * rule.interval)) found.0 found.1 × IsNamedInMonth c rule t found n
    second = of-monthly c rule t j n monthly two

    far : (end_of (month_stretch c first.0) +ℤ pos 1) ≤ℤ day_number c (date second.0.0 second.0.1 1)
    far = month-after_next c law first.0.0 first.0.1 second.0.0 second.0.1 first.1.place second.1.place
        (omega (arith, signed, first.1.moved, second.1.moved, two-more i j rule.interval every order))
