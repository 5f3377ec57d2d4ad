-- Looks at months.
use Rattle.std.proofs.Common.{◌≡◌, ◌∙◌, ℕ, false, ◌+◌, ◌≤◌, ◌<◌, ◌↔◌, ℤ, pos, negsuc, ◌+ℤ◌, ◌-ℤ◌, ◌≤ℤ◌, ◌<ℤ◌, int_lt, refl, sym, ap, subst, arith}
use mathlib.Core.Bool.{true≢false}
use mathlib.Core.Logic.{inl, ⊎_elim}
use Rattle.cal_days.proofs.Signed.{by_bool, signed}
use Rattle.cal_types.specs.CalendarList.{CalendarList, Date, HasPlace, IsLawful, IsOn, date, day_number, month_at, month_length}
use Rattle.cal_types.specs.MonthParts.{month_parts}
use Rattle.cal_types.proofs.ListLemmas.{on-rest, on-unique}
use Rattle.cal_rule.specs.declared.rule.RecurrenceRule.{RecurrenceRule}
use Rattle.cal_rrule.specs.Looks.{CountsInMonths, IsMonthLook, look_stretch}
use Rattle.cal_rrule.specs.Masks.{Adds, InRow, IsWeekdayIn, Marks}
use Rattle.cal_rrule.specs.Periods.{IsOfWeekdays}
use Rattle.cal_rrule.specs.Stretches.{InStretch, Stretch, end_of, month_stretch}
use Rattle.cal_rrule.specs.Weeks.{IsAmongWeekdays}
use Rattle.cal_rrule.specs.declared.month_look.MonthLook.{MonthLook}
use Rattle.recurrence_sets.specs.PeriodBits.{has_day}
use Rattle.recurrence_sets.specs.declared.period_days.PeriodDays.{PeriodDays}

-- a month that is looked at by one of its days
pub look-of : (c : CalendarList) (n : ℤ) (t : Date) (look : MonthLook) → IsOn c n t → look.year ≡ t.year →
    look.place ≡ t.month → look.first ≡ n +ℤ pos 1 -ℤ pos t.day → look.days ≡ month_length c t.year t.month →
    month_parts look.month ≡ month_at c t.year t.month → IsMonthLook c look
look-of c n t look on year place first days month = record {
  is_place = subst (λ (i : ℕ). HasPlace c look.year i) (sym place) (subst (λ (y : ℤ). HasPlace c y t.month) (sym year) on.date.place);
  is_first = first ∙ begins ∙ ap (λ (i : ℕ). day_number c (date t.year i 1)) (sym place)
      ∙ ap (λ (y : ℤ). day_number c (date y look.place 1)) (sym year);
  is_length = days ∙ ap (λ (i : ℕ). month_length c t.year i) (sym place) ∙ ap (λ (y : ℤ). month_length c y look.place) (sym year);
  is_month = month ∙ ap (λ (i : ℕ). month_at c t.year i) (sym place) ∙ ap (λ (y : ℤ). month_at c y look.place) (sym year);
}
  where
    begins : n +ℤ pos 1 -ℤ pos t.day ≡ day_number c (date t.year t.month 1)
    begins = omega (arith, signed, on.day, on.date.day.0)

-- the day is one of the month
pub look-within : (c : CalendarList) (n : ℤ) (t : Date) (first : ℤ) (days : ℕ) → IsOn c n t →
    first ≡ n +ℤ pos 1 -ℤ pos t.day → days ≡ month_length c t.year t.month → (first ≤ℤ n) × (n <ℤ (first +ℤ pos days))
look-within c n t first days on begins length =
    (omega (arith, signed, begins, on.date.day.0), omega (arith, signed, begins, length, on.date.day.1))

abbrev made : ℤ → ℕ → Stretch
made f d = record { first = f; days = d }

-- the days that are looked at are those of the month
pub look-stretch : (c : CalendarList) (look : MonthLook) → IsMonthLook c look →
    look_stretch look ≡ month_stretch c (look.year, look.place)
look-stretch c look is =
    ap (λ (f : ℤ). made f look.days) is.is_first
    ∙ ap (λ (d : ℕ). made (day_number c (date look.year look.place 1)) d) is.is_length

-- a day of a month that is looked at is on a date of it
pub look-on : (c : CalendarList) (look : MonthLook) (n : ℤ) → IsMonthLook c look → InStretch (look_stretch look) n →
    (d : ℕ) × IsOn c n (date look.year look.place d)
look-on c look n is within = by_offset (n -ℤ look.first) refl
  where
    by_offset : (z : ℤ) → n -ℤ look.first ≡ z → (d : ℕ) × IsOn c n (date look.year look.place d)
    by_offset (pos r) e = (
      r + 1,
      on-rest c look.year look.place r n is.is_place (omega (arith, signed, e, is.is_first))
          (omega (arith, signed, e, within.1, is.is_length)),
    )
    by_offset (negsuc r) e = absurd (omega (arith, signed, e, within.0))

-- the dates of two days in a month that is looked at
pub look-date : (c : CalendarList) (look : MonthLook) (n : ℤ) (t : Date) → IsMonthLook c look → InStretch (look_stretch look) n →
    IsOn c n t → (t.year ≡ look.year) × (t.month ≡ look.place)
look-date c look n t is within on =
    let own = look-on c look n is within in
    let same : t ≡ date look.year look.place own.0 = on-unique c n t (date look.year look.place own.0) on own.1 in
    (ap (λ (u : Date). u.year) same, ap (λ (u : Date). u.month) same)

-- BYDAY of a day of a month, where weekdays are counted in the month
pub look-weekdays : (c : CalendarList) (rule : RecurrenceRule) (look : MonthLook) (n : ℤ) → IsMonthLook c look →
    CountsInMonths rule → InStretch (look_stretch look) n →
    IsAmongWeekdays rule.weekdays (look_stretch look) n ↔ IsOfWeekdays c rule n
look-weekdays c rule look n is counts within = (
  λ h. let own = look-on c look n is within in (
    date look.year look.place own.0,
    own.1,
    month_stretch c (look.year, look.place),
    (λ _. refl, λ m. absurd (counts m)),
    subst (λ (s : Stretch). IsAmongWeekdays rule.weekdays s n) (look-stretch c look is) h,
  ),
  λ h. let at = look-date c look n h.0 is within h.1 in
      let named : h.2 ≡ month_stretch c (h.0.year, h.0.month) = h.3.0 counts in
      let same : h.2 ≡ look_stretch look = named
      ∙ ap (λ (y : ℤ). month_stretch c (y, h.0.month)) at.0
      ∙ ap (λ (i : ℕ). month_stretch c (look.year, i)) at.1
      ∙ sym (look-stretch c look is) in
      subst (λ (s : Stretch). IsAmongWeekdays rule.weekdays s n) same h.4,
)

-- the days of a month on which BYDAY holds
pub look-marks : (c : CalendarList) (rule : RecurrenceRule) (look : MonthLook) (old new : PeriodDays) → IsMonthLook c look →
    CountsInMonths rule → look.days < 256 → old.first ≡ look.first → ((n : ℤ) → has_day old n ≡ false) →
    Adds old new (IsWeekdayIn rule.weekdays (look_stretch look)) →
    Marks new look.first (end_of (look_stretch look)) (IsOfWeekdays c rule)
look-marks c rule look old new is counts small first none adds = record {
  first = adds.first ∙ first;
  days = λ n from to.
      let row : InRow old n = (omega (arith, signed, first, from), omega (arith, signed, first, to, small)) in
      let here = adds.days n row in
      let same = look-weekdays c rule look n is counts (from, to) in (
        λ h. ⊎_elim (λ p. same.0 p.1) (λ q. absurd (true≢false (sym q ∙ none n))) (here.0 h),
        λ h. here.1 (inl ((from, to), same.1 h)),
      );
}

-- a month has a day
pub some : (c : CalendarList) → IsLawful c → (a : MonthLook) → IsMonthLook c a → 1 ≤ a.days
some c law a is = omega (arith, is.is_length, (law.lengths a.year a.place is.is_place).0)

-- two months with a common day are the same
look-same : (c : CalendarList) (a b : MonthLook) (n : ℤ) → IsMonthLook c a → IsMonthLook c b →
    InStretch (look_stretch a) n → InStretch (look_stretch b) n → look_stretch a ≡ look_stretch b
look-same c a b n one two in_one in_two =
    let own = look-on c a n one in_one in
    let at = look-date c b n (date a.year a.place own.0) two in_two own.1 in
    look-stretch c a one ∙ ap (λ (y : ℤ). month_stretch c (y, a.place)) at.0
    ∙ ap (λ (i : ℕ). month_stretch c (b.year, i)) at.1 ∙ sym (look-stretch c b two)

-- the month of the day behind a month begins there
pub look-joins : (c : CalendarList) → IsLawful c → (a b : MonthLook) → IsMonthLook c a → IsMonthLook c b →
    InStretch (look_stretch b) (end_of (look_stretch a)) → b.first ≡ end_of (look_stretch a)
look-joins c law a b one two within =
    by_bool (int_lt b.first (end_of (look_stretch a)))
    (λ e. absurd (apart (omega (arith, signed, e)) (some c law a one)))
    (λ e. omega (arith, signed, e, within.0))
  where
    apart : b.first <ℤ end_of (look_stretch a) → 1 ≤ a.days → ⊥
    apart low some =
        let last = end_of (look_stretch a) -ℤ pos 1 in
        let in_one : InStretch (look_stretch a) last = (omega (arith, signed, some), omega (arith, signed)) in
        let in_two : InStretch (look_stretch b) last = (omega (arith, signed, low), omega (arith, signed, within.1)) in
        let same = look-same c a b last one two in_one in_two in
        let ends : end_of (look_stretch a) ≡ end_of (look_stretch b) = ap end_of same in
        omega (arith, signed, ends, within.1)

-- and the month of the day before a month ends there
pub look-meets : (c : CalendarList) → IsLawful c → (a b : MonthLook) → IsMonthLook c a → IsMonthLook c b →
    InStretch (look_stretch b) (a.first -ℤ pos 1) → end_of (look_stretch b) ≡ a.first
look-meets c law a b one two within =
    by_bool (int_lt a.first (end_of (look_stretch b)))
    (λ e. absurd (apart (omega (arith, signed, e)) (some c law a one)))
    (λ e. omega (arith, signed, e, within.1))
  where
    apart : a.first <ℤ end_of (look_stretch b) → 1 ≤ a.days → ⊥
    apart low some =
        let in_one : InStretch (look_stretch a) a.first = (omega (arith, signed), omega (arith, signed, some)) in
        let in_two : InStretch (look_stretch b) a.first = (omega (arith, signed, within.0), low) in
        let same = look-same c a b a.first one two in_one in_two in
        let begins : a.first ≡ b.first = ap (λ (s : Stretch). s.first) same in
        omega (arith, signed, begins, within.0)
