-- MONTHLY's periods.
use Rattle.std.proofs.Common.{◌≡◌, ℕ, ◌*◌, ◌≤◌, ◌<◌, IsTrue, int_lt, Option, None, Some, IfSome, ℤ, pos, ◌+ℤ◌, ◌-ℤ◌, ◌≤ℤ◌, ◌<ℤ◌, sym, subst, arith}
use Rattle.std.proofs.lemmas.Nat.{mul-le}
use Rattle.cal_days.proofs.Signed.{by_bool, signed}
use Rattle.cal_types.specs.CalendarList.{CalendarList, Date, IsLawful, IsMonthsAfter, date, day_number}
use Rattle.cal_rule.specs.declared.frequency.Frequency.TheVariants.{Monthly}
use Rattle.cal_rule.specs.declared.rule.RecurrenceRule.{RecurrenceRule}
use Rattle.cal_rrule.specs.Looks.{AreMissing, IsMonthLook, IsMonthReached, look_stretch}
use Rattle.cal_rrule.specs.Masks.{InRow, Marks}
use Rattle.cal_rrule.specs.Occurrences.{IsKept}
use Rattle.cal_rrule.specs.PeriodSets.{IsPeriodSet}
use Rattle.cal_rrule.specs.Periods.{IsNamedInMonth}
use Rattle.cal_rrule.specs.Stretches.{end_of, month_stretch}
use Rattle.cal_rrule.specs.declared.missing.Missing.{Missing}
use Rattle.cal_rrule.specs.declared.month_look.MonthLook.{MonthLook}
use Rattle.cal_rrule.specs.laws.MonthlyApart.{named-reaches, of-monthly}
use Rattle.cal_rrule.proofs.MonthDayLemmas.{month-range, period-month, reach-range}
use Rattle.cal_rrule.proofs.MonthStepLemmas.{month-order, reached-later}
use Rattle.recurrence_sets.specs.PeriodBits.{has_day}
use Rattle.recurrence_sets.specs.Periods.{HaveEnded}
use Rattle.recurrence_sets.specs.declared.period_days.PeriodDays.{PeriodDays}

-- the days that a month names, and none outside of its reach, are those of its period
pub month-set : (c : CalendarList) (rule : RecurrenceRule) (t : Date) (k : ℕ) (look : MonthLook) (missing : Missing) (days : PeriodDays) →
    IsMonthLook c look → AreMissing rule missing → rule.frequency ≡ Monthly → look.days ≤ 31 →
    IsMonthsAfter c t.year t.month (pos (k * rule.interval)) look.year look.place →
    Marks days (look.first -ℤ pos 1) ((look.first -ℤ pos 1) +ℤ pos 448)
    (λ n. (((look.first -ℤ pos 1) ≤ℤ n) × (n <ℤ (end_of (look_stretch look) +ℤ pos 1))) × IsNamedInMonth c rule t (look.year, look.place) n) →
    ((n : ℤ) → IsTrue (has_day days n) → InRow days n) → IsPeriodSet c rule t k days
month-set c rule t k look missing days is are monthly short after marks row = record {
  row = row;
  exact = λ n row.
      let here = marks.days n (omega (arith, signed, marks.first, row.0)) (omega (arith, signed, marks.first, row.1)) in
      let of = period-month c rule t k look n monthly after in
      (λ h. of.0 (here.0 h).1, λ p. let named = of.1 p in here.1 (month-range c rule t look is missing are n named, named));
  within = λ n p.
      let range = month-range c rule t look is missing are n ((period-month c rule t k look n monthly after).1 p) in
      (omega (arith, signed, marks.first, range.0), omega (arith, signed, marks.first, range.1, short));
}

-- what a month names isn't before the day before it
named-least : (c : CalendarList) (rule : RecurrenceRule) (t : Date) (found : ℤ × ℕ) (n : ℤ) → IsNamedInMonth c rule t found n →
    day_number c (date found.0 found.1 1) ≤ℤ (n +ℤ pos 1)
named-least c rule t found n named =
    by_bool (int_lt (n +ℤ pos 1) (day_number c (date found.0 found.1 1)))
    (λ e. absurd (named-reaches c rule t found n named
    (λ reach. let range = reach-range rule.skip (month_stretch c found) n reach in omega (arith, signed, e, range.0))))
    (λ e. omega (arith, signed, e))

-- the months of later periods are later
months-later : (rule : RecurrenceRule) (k j : ℕ) → k ≤ j → k * rule.interval ≤ j * rule.interval
months-later rule k j order = mul-le k rule.interval j rule.interval order (omega arith)

module _ (c : CalendarList) (law : IsLawful c) (rule : RecurrenceRule) (monthly : rule.frequency ≡ Monthly) (t : Date)
    (a : MonthLook) (year : a.year ≡ t.year) (place : a.place ≡ t.month) where
  -- months are counted from the start's
  pub from-start : (months : ℕ) (z : ℤ) (j : ℕ) → IsMonthsAfter c t.year t.month (pos months) z j → IsMonthsAfter c a.year a.place (pos months) z j
  from-start months z j after =
      subst (λ (i : ℕ). IsMonthsAfter c a.year i (pos months) z j) (sym place)
      (subst (λ (y : ℤ). IsMonthsAfter c y t.month (pos months) z j) (sym year) after)

  pub to-start : (months : ℕ) (z : ℤ) (j : ℕ) → IsMonthsAfter c a.year a.place (pos months) z j → IsMonthsAfter c t.year t.month (pos months) z j
  to-start months z j after =
      subst (λ (i : ℕ). IsMonthsAfter c t.year i (pos months) z j) place
      (subst (λ (y : ℤ). IsMonthsAfter c y a.place (pos months) z j) year after)

  -- a period has no month with a valid day, so no later period has one
  pub ended-none : (period : ℕ) (last : ℤ) → IsMonthReached c a (period * rule.interval) None → HaveEnded (IsKept c rule t) period last
  ended-none period last none j order n valid low kept =
      let of = of-monthly c rule t j n monthly kept in
      reached-later c law a (period * rule.interval) none (j * rule.interval) (months-later rule period j order) of.0.0 of.0.1
      (from-start (j * rule.interval) of.0.0 of.0.1 of.1) n (named-least c rule t of.0 n of.2) valid

  -- a period begins behind a last day, and so do later ones
  pub ended-behind : (period : ℕ) (last : ℤ) (look : MonthLook) → IsMonthLook c look →
      IsMonthsAfter c t.year t.month (pos (period * rule.interval)) look.year look.place → (last +ℤ pos 1) <ℤ look.first →
      HaveEnded (IsKept c rule t) period last
  ended-behind period last look is after behind j order n valid low kept =
      let of = of-monthly c rule t j n monthly kept in
      let begins = month-order c law a (period * rule.interval) (j * rule.interval) look.year look.place of.0.0 of.0.1
      (months-later rule period j order) (from-start (period * rule.interval) look.year look.place after)
      (from-start (j * rule.interval) of.0.0 of.0.1 of.1) in
      let least = named-least c rule t of.0 n of.2 in
      omega (arith, signed, begins, least, low, behind, is.is_first)

-- few periods have few months
pub few-periods : (period interval : ℕ) → 0 < interval → period * interval ≤ 27040001 → period < 4294967295
few-periods period interval every few =
    let least : period * 1 ≤ period * interval = mul-le period 1 period interval (omega arith) (omega (arith, every)) in
    omega (arith, least, few)

-- what holds of anything
pub some-any : {A : Type 0} (P : Type 0) (r : Option A) → P → IfSome r (λ _. P)
some-any P (Some x) p = p
some-any P None p = tt
