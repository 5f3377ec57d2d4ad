-- The days of a month that DAILY keeps.
use Rattle.std.proofs.Common.{◌≡◌, ◌∙◌, ℕ, ◌≤◌, ◌↔◌, ◌&&◌, ◌||◌, IsTrue, Bool, true, false, ℤ, pos, ◌+ℤ◌, ◌≤ℤ◌, sym, ap, subst, arith}
use mathlib.Core.Bool.{true≢false}
use mathlib.Core.Logic.{inl, inr, ⊎_elim}
use Rattle.std.proofs.lemmas.Bool.Decides.{Decides-and, Decides-at, Decides-or}
use Rattle.cal_days.proofs.Signed.{signed}
use Rattle.cal_types.specs.CalendarList.{CalendarList, date, month_at}
use Rattle.cal_types.specs.Month.{MonthParts}
use Rattle.cal_types.specs.MonthParts.{month_parts}
use Rattle.cal_rule.specs.Sets.{has_month, has_place}
use Rattle.cal_rule.specs.declared.place_set.Place.TheVariants.{FromFront, FromBack}
use Rattle.cal_rule.specs.declared.rule.RecurrenceRule.{RecurrenceRule}
use Rattle.cal_rule.specs.declared.skip.Skip.TheVariants.{Omit}
use Rattle.cal_rrule.specs.Looks.{IsDailyDay, IsMonthLook, IsMultiple, KeepsMonth, KeepsSingle, look_stretch}
use Rattle.cal_rrule.specs.Masks.{Adds, InRow, IsInterval, IsNamedBy, Marks}
use Rattle.cal_rrule.specs.Periods.{IsMissing, IsOfMonthDays, IsOfMonths, IsOfWeekdays, NoMonthDays, NoMonths, NoWeekdays}
use Rattle.cal_rrule.specs.Stretches.{InStretch, Stretch, end_of, month_stretch}
use Rattle.cal_rrule.specs.declared.month_look.MonthLook.{MonthLook}
use Rattle.cal_rrule.proofs.AskedLemmas.{missing-or}
use Rattle.cal_rrule.proofs.LookLemmas.{look-date, look-on, look-stretch}
use Rattle.recurrence_sets.specs.PeriodBits.{has_day}
use Rattle.recurrence_sets.specs.declared.period_days.PeriodDays.{PeriodDays}

-- places 1 and -1
pub single : (rule : RecurrenceRule) (b front back : Bool) → IsTrue b ↔ IsMissing has_place rule.positions →
    front ≡ has_place rule.positions (FromFront 1) → back ≡ has_place rule.positions (FromBack 1) →
    IsTrue (b || (front || back)) ↔ KeepsSingle rule
single rule b front back same f g =
    let test = missing-or (IsMissing has_place rule.positions) b (front || back) same in
    let either = Decides-or front back (λ x. x, λ x. x) (λ x. x, λ x. x) in (
      λ h there. ⊎_elim (λ p. inl (sym f ∙ p)) (λ q. inr (sym g ∙ q)) (either.0 (test.0 h there)),
      λ keeps. test.1 (λ there. either.1 (⊎_elim (λ p. inl (f ∙ p)) (λ q. inr (g ∙ q)) (keeps there))),
    )

-- the days of an interval in a month
pub interval-marks : (old new : PeriodDays) (start from to : ℤ) (every : ℕ) → old.first ≡ from →
    ((n : ℤ) → has_day old n ≡ false) → Adds old new (IsInterval start every from to) → to ≤ℤ (from +ℤ pos 448) →
    Marks new from to (IsMultiple start every)
interval-marks old new start from to every first none adds few = record {
  first = adds.first ∙ first;
  days = λ n above below.
      let row : InRow old n = (omega (arith, signed, first, above), omega (arith, signed, first, below, few)) in
      let here = adds.days n row in (
        λ h. ⊎_elim (λ p. (p.0, p.1)) (λ q. absurd (true≢false (sym q ∙ none n))) (here.0 h),
        λ p. here.1 (inl (p.0, p.1, above, below)),
      );
}

module _ (c : CalendarList) (rule : RecurrenceRule) (look : MonthLook) (is : IsMonthLook c look) (n : ℤ)
    (within : InStretch (look_stretch look) n) where
  -- BYMONTH of a day of the month
  pub look-months : KeepsMonth rule (month_parts look.month) ↔ (¬ (NoMonths rule) → IsOfMonths c rule n)
  look-months = (
    λ keeps there. let own = look-on c look n is within in (
      date look.year look.place own.0,
      own.1,
      subst (λ (m : MonthParts). IsTrue (has_month rule.months m)) is.is_month (keeps there),
    ),
    λ holds there. let of = holds there in
        let at = look-date c look n of.0 is within of.1 in
        let same : month_at c of.0.year of.0.month ≡ month_parts look.month =
        ap (λ (y : ℤ). month_at c y of.0.month) at.0 ∙ ap (λ (i : ℕ). month_at c look.year i) at.1 ∙ sym is.is_month in
        subst (λ (m : MonthParts). IsTrue (has_month rule.months m)) same of.2,
  )

  -- BYMONTHDAY of a day of the month
  pub look-month_days : IsNamedBy rule.month_days Omit (look_stretch look) n ↔ IsOfMonthDays c rule n
  look-month_days = (
    λ h. let own = look-on c look n is within in
        let there = subst (λ (s : Stretch). IsNamedBy rule.month_days Omit s n) (look-stretch c look is) h in
        (date look.year look.place own.0, own.1, there.0, there.1, there.2),
    λ of. let at = look-date c look n of.0 is within of.1 in
        let same : month_stretch c (of.0.year, of.0.month) ≡ look_stretch look =
        ap (λ (y : ℤ). month_stretch c (y, of.0.month)) at.0
        ∙ ap (λ (i : ℕ). month_stretch c (look.year, i)) at.1 ∙ sym (look-stretch c look is) in
        subst (λ (s : Stretch). IsNamedBy rule.month_days Omit s n) same (of.2, of.3, of.4),
  )

-- a part that is missing keeps all days
pub keep-all : (old : Bool) (No Holds : Type 0) → No → IsTrue old ↔ (IsTrue old × (¬ No → Holds))
keep-all old No Holds lacks = (λ h. (h, λ there. absurd (there lacks)), λ p. p.0)

-- and one that is there some of them
pub keep-some : (old other new : Bool) (No Holds : Type 0) → ¬ No → new ≡ (old && other) → IsTrue other ↔ Holds →
    IsTrue new ↔ (IsTrue old × (¬ No → Holds))
keep-some old other new No Holds there both same =
    let parts = Decides-at new (old && other) both (Decides-and old other (λ x. x, λ x. x) same) in
    (λ h. let p = parts.0 h in (p.0, λ _. p.1), λ p. parts.1 (p.0, p.1 there))

-- the named days of a month, which are added to no days
pub named-marks : (c : CalendarList) (rule : RecurrenceRule) (look : MonthLook) (old new : PeriodDays) (n : ℤ) →
    IsMonthLook c look → InStretch (look_stretch look) n → look.days ≤ 31 → old.first ≡ look.first →
    ((m : ℤ) → has_day old m ≡ false) → Adds old new (IsNamedBy rule.month_days Omit (look_stretch look)) →
    IsTrue (has_day new n) ↔ IsOfMonthDays c rule n
named-marks c rule look old new n is within short first none adds =
    let row : InRow old n = (omega (arith, signed, first, within.0), omega (arith, signed, first, within.1, short)) in
    let here = adds.days n row in
    let same = look-month_days c rule look is n within in
    (λ h. ⊎_elim (λ p. same.0 p) (λ q. absurd (true≢false (sym q ∙ none n))) (here.0 h), λ of. here.1 (inl (same.1 of)))

-- a month of which DAILY keeps nothing
pub daily-none : (c : CalendarList) (rule : RecurrenceRule) (look : MonthLook) (start : ℤ) (days : PeriodDays) →
    IsMonthLook c look → days.first ≡ look.first → ((n : ℤ) → has_day days n ≡ false) →
    (KeepsMonth rule (month_parts look.month) → KeepsSingle rule → ⊥) →
    Marks days look.first (end_of (look_stretch look)) (IsDailyDay c rule start)
daily-none c rule look start days is first none keeps = record {
  first = first;
  days = λ n above below. (
    λ h. absurd (true≢false (sym h ∙ none n)),
    λ p. absurd (keeps ((look-months c rule look is n (above, below)).1 p.1.month) p.2),
  );
}

-- and one of which it keeps days
pub daily-some : (c : CalendarList) (rule : RecurrenceRule) (look : MonthLook) (start : ℤ) (one two three : PeriodDays) →
    IsMonthLook c look → KeepsMonth rule (month_parts look.month) → KeepsSingle rule →
    Marks one look.first (end_of (look_stretch look)) (IsMultiple start rule.interval) →
    two.first ≡ one.first → three.first ≡ two.first →
    ((n : ℤ) → InStretch (look_stretch look) n →
    IsTrue (has_day two n) ↔ (IsTrue (has_day one n) × (¬ (NoMonthDays rule) → IsOfMonthDays c rule n))) →
    ((n : ℤ) → InStretch (look_stretch look) n →
    IsTrue (has_day three n) ↔ (IsTrue (has_day two n) × (¬ (NoWeekdays rule) → IsOfWeekdays c rule n))) →
    Marks three look.first (end_of (look_stretch look)) (IsDailyDay c rule start)
daily-some c rule look start one two three is keeps alone marks first_two first_three month_days weekdays = record {
  first = first_three ∙ first_two ∙ marks.first;
  days = λ n above below.
      let days = month_days n (above, below) in
      let named = weekdays n (above, below) in
      let multiple = marks.days n above below in
      let months = look-months c rule look is n (above, below) in (
        λ h. let outer = named.0 h in let inner = days.0 outer.0 in
            (multiple.0 inner.0, record { month = months.0 keeps; month_day = inner.1; weekday = outer.1 }, alone),
        λ p. named.1 (days.1 (multiple.1 p.0, p.1.month_day), p.1.weekday),
      );
}

-- two tests that hold, and not both of them
pub both-fail : (a b : Bool) → a ≡ true → b ≡ true → (a && b) ≡ false → ⊥
both-fail true b e f g = true≢false (sym f ∙ g)
both-fail false b e f g = true≢false (sym e)
