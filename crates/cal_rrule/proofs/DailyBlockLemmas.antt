-- DAILY's blocks.
use Rattle.std.proofs.Common.{◌≡◌, ◌∙◌, ℕ, ◌<◌, ◌≤◌, ◌↔◌, ◌&&◌, IsTrue, int_le, int_lt, IfSome, MatchOption, Option, Some, None, ℤ, pos, ◌+ℤ◌, ◌≤ℤ◌, ◌<ℤ◌, sym, ap, subst, arith}
use Rattle.std.proofs.lemmas.Bool.Decides.{Decides-and, Decides-at}
use Rattle.cal_days.specs.Day.{IsValidDay}
use Rattle.cal_days.proofs.Signed.{signed}
use Rattle.cal_types.specs.CalendarList.{CalendarList, IsLawful, IsMonthsAfter, date}
use Rattle.cal_types.proofs.ListLemmas.{month_number-injective}
use Rattle.cal_rule.specs.declared.frequency.Frequency.{Frequency}
use Rattle.cal_rule.specs.declared.frequency.Frequency.TheVariants.{Daily}
use Rattle.cal_rule.specs.declared.rule.RecurrenceRule.{RecurrenceRule}
use Rattle.cal_rrule.specs.Asking.{IsAsked}
use Rattle.cal_rrule.specs.Blocks.{IsOfBlock, IsOfBlocks, start_of}
use Rattle.cal_rrule.specs.Looks.{IsMonthHeld, IsMonthLook, look_stretch}
use Rattle.cal_rrule.specs.Masks.{Marks}
use Rattle.cal_rrule.specs.NearDays.{IsNearList}
use Rattle.cal_rrule.specs.Occurrences.{IsKept}
use Rattle.cal_rrule.specs.Stretches.{InStretch, Stretch, month_stretch}
use Rattle.cal_rrule.specs.declared.asked.Asked.{Asked}
use Rattle.cal_rrule.specs.declared.month_look.MonthLook.{MonthLook}
use Rattle.cal_rrule.proofs.BlockLemmas.{month-far}
use Rattle.cal_rrule.proofs.LookLemmas.{look-stretch}
use Rattle.cal_rrule.proofs.MaskLemmas.{le_test, lt_test}
use Rattle.cal_rrule.proofs.MonthStepLemmas.{held-later, month-order}
use Rattle.recurrence_sets.specs.PeriodBits.{has_day}
use Rattle.recurrence_sets.specs.Periods.{HaveEnded, Holds}
use Rattle.recurrence_sets.specs.declared.period_days.PeriodDays.{PeriodDays}

-- days that are kept from one up to another
pub kept-marks : (old new : PeriodDays) (first end : ℤ) (Is : ℤ → Type 0) → Marks old first end Is → new.first ≡ old.first →
    ((n : ℤ) → old.first ≤ℤ n → n <ℤ (old.first +ℤ pos 448) → has_day new n ≡ (has_day old n && (int_le first n && int_lt n end))) →
    Marks new first (first +ℤ pos 448) (λ n. ((first ≤ℤ n) × (n <ℤ end)) × Is n)
kept-marks old new first end Is marks same both = record {
  first = same ∙ marks.first;
  days = λ n above below.
      let low : old.first ≤ℤ n = omega (arith, signed, marks.first, above) in
      let high : n <ℤ (old.first +ℤ pos 448) = omega (arith, signed, marks.first, below) in
      let parts = Decides-at (has_day new n) (has_day old n && (int_le first n && int_lt n end)) (both n low high)
      (Decides-and (has_day old n) (int_le first n && int_lt n end) (λ x. x, λ x. x)
      (Decides-and (int_le first n) (int_lt n end) (le_test first n) (lt_test n end))) in (
        λ h. let p = parts.0 h in (p.1, (marks.days n p.1.0 p.1.1).0 p.0),
        λ q. parts.1 ((marks.days n q.0.0 q.0.1).1 q.1, q.0),
      );
}

-- the days of the month that was found are those of the block
module _ (c : CalendarList) (law : IsLawful c) (rule : RecurrenceRule) (month look : MonthLook) (d block : ℕ) (is : IsMonthLook c look)
    (after : IsMonthsAfter c month.year month.place (pos block) look.year look.place) where
  -- a day of the block is in the month
  in_month : (n : ℤ) → IsOfBlocks Daily c rule (date month.year month.place d) block n → InStretch (look_stretch look) n
  in_month n p =
      let at = month_number-injective c p.0.0 p.0.1 look.year look.place p.1.place after.place (p.1.moved ∙ sym after.moved) in
      let same : month_stretch c p.0 ≡ look_stretch look =
      ap (λ (y : ℤ). month_stretch c (y, p.0.1)) at.0 ∙ ap (λ (i : ℕ). month_stretch c (look.year, i)) at.1
      ∙ sym (look-stretch c look is) in
      subst (λ (s : Stretch). InStretch s n) same p.2

  block-days : (days : PeriodDays) →
      ((n : ℤ) → IsTrue (has_day days n)
      ↔ (InStretch (look_stretch look) n × ((k : ℕ) × IsKept c rule (date month.year month.place d) k n))) →
      (n : ℤ) → IsTrue (has_day days n) ↔ IsOfBlocks Daily c rule (date month.year month.place d) block n
  block-days days exact n = (
    λ h. let p = (exact n).0 h in
        ((look.year, look.place), after, subst (λ (s : Stretch). InStretch s n) (look-stretch c look is) p.0, p.1.0, p.1.1),
    λ p. (exact n).1 (in_month n p, (p.3, p.4)),
  )

  -- what was found of the month is the block
  pub daily-found : rule.frequency ≡ Daily → (last : ℤ) (found : Option PeriodDays) →
      MatchOption found (last <ℤ look.first) (λ days. (n : ℤ) → IsTrue (has_day days n)
      ↔ (InStretch (look_stretch look) n × ((k : ℕ) × IsKept c rule (date month.year month.place d) k n))) →
      MatchOption found (HaveEnded (IsOfBlock c rule (date month.year month.place d)) block last)
      (Holds (IsOfBlock c rule (date month.year month.place d) block))
  daily-found daily last None past = λ later order n valid early of.
      let p = subst (λ (f : Frequency). IsOfBlocks f c rule (date month.year month.place d) later n) daily of in
      let begins = month-order c law month block later look.year look.place p.0.0 p.0.1 order after p.1 in
      omega (arith, signed, past, early, begins, p.2.0, is.is_first)
  daily-found daily last (Some days) exact = λ n valid. (
    λ h. subst (λ (f : Frequency). IsOfBlocks f c rule (date month.year month.place d) block n) (sym daily) ((block-days days exact n).0 h),
    λ of. (block-days days exact n).1 (subst (λ (f : Frequency). IsOfBlocks f c rule (date month.year month.place d) block n) daily of),
  )

-- no later block has a valid day
pub block-none : (c : CalendarList) → IsLawful c → (rule : RecurrenceRule) (month : MonthLook) (d block : ℕ) →
    rule.frequency ≡ Daily → IsMonthHeld c month block None → (later : ℕ) → block ≤ later → (n : ℤ) →
    IsOfBlock c rule (date month.year month.place d) later n → IsValidDay n → ⊥
block-none c law rule month d block daily none later order n of valid =
    let p = subst (λ (f : Frequency). IsOfBlocks f c rule (date month.year month.place d) later n) daily of in
    held-later c law month block none later order p.0.0 p.0.1 p.1 n p.2.0 valid

-- and one that lies too many months behind the start has none, either
pub block-far : (c : CalendarList) → IsNearList c → (rule : RecurrenceRule) (asked : Asked) →
    IsAsked c (start_of asked) asked → rule.frequency ≡ Daily → (block later : ℕ) → 27040000 < block → block ≤ later → (n : ℤ) →
    IsOfBlock c rule (start_of asked) later n → IsValidDay n → ⊥
block-far c near rule asked is daily block later far order n of valid =
    let p = subst (λ (f : Frequency). IsOfBlocks f c rule (start_of asked) later n) daily of in
    month-far c near (start_of asked)
    (record { date = is.is_date; valid = subst (λ (m : ℤ). IsValidDay m) is.on_day is.is_valid }) later p.0.0 p.0.1 n
    (omega (arith, far, order)) p.1 p.2 valid

-- what holds of any block holds of one that was found
pub any-found : {A : Type 0} (found : Option A) (P : Type 0) → P → IfSome found (λ _. P)
any-found None P p = tt
any-found (Some x) P p = p
