-- Days that are marked month by month, or year by year.
use Rattle.std.proofs.Common.{◌≡◌, ◌∙◌, ℕ, ◌↔◌, IsTrue, false, int_lt, ℤ, pos, ◌+ℤ◌, ◌≤ℤ◌, sym, ap, subst, arith}
use mathlib.Core.Bool.{true≢false}
use mathlib.Core.Logic.{inl, inr, ⊎_elim}
use Rattle.cal_days.proofs.Signed.{by_bool, signed}
use Rattle.cal_types.specs.CalendarList.{CalendarList, date, month_at}
use Rattle.cal_types.specs.Month.{MonthParts}
use Rattle.cal_types.specs.MonthParts.{month_parts}
use Rattle.cal_rule.specs.Sets.{has_month}
use Rattle.cal_rule.specs.declared.rule.RecurrenceRule.{RecurrenceRule}
use Rattle.cal_rrule.specs.Looks.{CountsInMonths, CountsInYears, IsMonthLook, IsYearLook, look_stretch, look_year}
use Rattle.cal_rrule.specs.Masks.{Adds, InRow, IsWeekdayIn, Marks, MarksBefore}
use Rattle.cal_rrule.specs.Periods.{IsOfMonths, IsOfWeekdays}
use Rattle.cal_rrule.specs.Stretches.{InStretch, Stretch, end_of}
use Rattle.cal_rrule.specs.declared.month_look.MonthLook.{MonthLook}
use Rattle.cal_rrule.specs.declared.year_look.YearLook.{YearLook}
use Rattle.cal_rrule.proofs.LookLemmas.{look-date, look-on, look-weekdays}
use Rattle.cal_rrule.proofs.MaskLemmas.{adds-as, adds-none, row_at}
use Rattle.cal_rrule.proofs.YearLookLemmas.{year-weekdays}
use Rattle.recurrence_sets.specs.PeriodBits.{has_day}
use Rattle.recurrence_sets.specs.declared.period_days.PeriodDays.{PeriodDays}

-- the stretch in which the days begin
pub walk-first : (old new : PeriodDays) (from : ℤ) (s : Stretch) (Is : ℤ → Type 0) → old.first ≡ from →
    ((n : ℤ) → has_day old n ≡ false) → Adds old new (λ n. InStretch s n × Is n) → s.first ≤ℤ from →
    MarksBefore new from (end_of s) Is
walk-first old new from s Is first none adds low = record {
  first = adds.first ∙ first;
  days = λ n row.
      let here = adds.days n (row_at new.first old.first n (sym adds.first) row) in
      let above : s.first ≤ℤ n = omega (arith, signed, low, first, adds.first, row.0) in (
        λ h. ⊎_elim (λ p. (p.1, p.0.1)) (λ q. absurd (true≢false (sym q ∙ none n))) (here.0 h),
        λ p. here.1 (inl ((above, p.1), p.0)),
      );
}

-- one stretch more
pub walk-next : (old new : PeriodDays) (from end : ℤ) (s : Stretch) (Is : ℤ → Type 0) → MarksBefore old from end Is →
    s.first ≡ end → Adds old new (λ n. InStretch s n × Is n) → MarksBefore new from (end_of s) Is
walk-next old new from end s Is before joins adds = record {
  first = adds.first ∙ before.first;
  days = λ n row.
      let own_row = row_at new.first old.first n (sym adds.first) row in
      let here = adds.days n own_row in
      let there = before.days n own_row in (
        λ h. ⊎_elim (λ p. (p.1, p.0.1)) (λ q. let b = there.0 q in (b.0, omega (arith, signed, b.1, joins))) (here.0 h),
        λ p. by_bool (int_lt n end)
            (λ e. here.1 (inr (there.1 (p.0, omega (arith, signed, e)))))
            (λ e. here.1 (inl ((omega (arith, signed, e, joins), p.1), p.0))),
      );
}

-- the last stretch
pub walk-marks : (days : PeriodDays) (from end to : ℤ) (Is : ℤ → Type 0) → MarksBefore days from end Is → to ≤ℤ end →
    to ≤ℤ (from +ℤ pos 448) → Marks days from to Is
walk-marks days from end to Is before past few = record {
  first = before.first;
  days = λ n above below.
      let row : InRow days n = (omega (arith, signed, before.first, above), omega (arith, signed, before.first, below, few)) in
      let here = before.days n row in
      (λ h. (here.0 h).0, λ p. here.1 (p, omega (arith, signed, below, past)));
}

module _ (c : CalendarList) (rule : RecurrenceRule) (look : MonthLook) (is : IsMonthLook c look) where
  -- BYMONTH of the days of a month
  of-months : (n : ℤ) → InStretch (look_stretch look) n →
      IsTrue (has_month rule.months (month_parts look.month)) ↔ IsOfMonths c rule n
  of-months n within = (
    λ has. let own = look-on c look n is within in (
      date look.year look.place own.0,
      own.1,
      subst (λ (m : MonthParts). IsTrue (has_month rule.months m)) is.is_month has,
    ),
    λ of. let at = look-date c look n of.0 is within of.1 in
        let same : month_at c of.0.year of.0.month ≡ month_parts look.month =
        ap (λ (y : ℤ). month_at c y of.0.month) at.0 ∙ ap (λ (i : ℕ). month_at c look.year i) at.1 ∙ sym is.is_month in
        subst (λ (m : MonthParts). IsTrue (has_month rule.months m)) same of.2,
  )

  pub months-yes : (old new : PeriodDays) → IsTrue (has_month rule.months (month_parts look.month)) →
      Adds old new (InStretch (look_stretch look)) →
      Adds old new (λ n. InStretch (look_stretch look) n × IsOfMonths c rule n)
  months-yes old new has adds =
      adds-as old new (InStretch (look_stretch look)) (λ n. InStretch (look_stretch look) n × IsOfMonths c rule n) adds
      (λ n. (λ within. (within, (of-months n within).0 has), λ p. p.0))

  pub months-no : (days : PeriodDays) → has_month rule.months (month_parts look.month) ≡ false →
      Adds days days (λ n. InStretch (look_stretch look) n × IsOfMonths c rule n)
  months-no days lacks =
      adds-none days (λ n. InStretch (look_stretch look) n × IsOfMonths c rule n)
      (λ n p. true≢false (sym ((of-months n p.0).1 p.1) ∙ lacks))

  -- BYDAY of the days of a month
  pub weekdays-month : (old new : PeriodDays) → CountsInMonths rule →
      Adds old new (IsWeekdayIn rule.weekdays (look_stretch look)) →
      Adds old new (λ n. InStretch (look_stretch look) n × IsOfWeekdays c rule n)
  weekdays-month old new counts adds =
      adds-as old new (IsWeekdayIn rule.weekdays (look_stretch look))
      (λ n. InStretch (look_stretch look) n × IsOfWeekdays c rule n) adds
      (λ n. (
        λ p. (p.0, (look-weekdays c rule look n is counts p.0).0 p.1),
        λ p. (p.0, (look-weekdays c rule look n is counts p.0).1 p.1),
      ))

-- and of a year
pub weekdays-year : (c : CalendarList) (rule : RecurrenceRule) (look : YearLook) → IsYearLook c look →
    (old new : PeriodDays) → CountsInYears rule → Adds old new (IsWeekdayIn rule.weekdays (look_year look)) →
    Adds old new (λ n. InStretch (look_year look) n × IsOfWeekdays c rule n)
weekdays-year c rule look is old new counts adds =
    adds-as old new (IsWeekdayIn rule.weekdays (look_year look))
    (λ n. InStretch (look_year look) n × IsOfWeekdays c rule n) adds
    (λ n. (
      λ p. (p.0, (year-weekdays c rule look n is counts p.0).0 p.1),
      λ p. (p.0, (year-weekdays c rule look n is counts p.0).1 p.1),
    ))
