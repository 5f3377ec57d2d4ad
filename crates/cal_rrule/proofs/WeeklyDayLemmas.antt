-- The days that WEEKLY names in weeks in a row.
use Rattle.std.proofs.Common.{◌≡◌, ◌∙◌, ℕ, ◌*◌, ◌/◌, ◌≤◌, ◌↔◌, IsTrue, false, Option, Some, None, ℤ, pos, negsuc, ◌+ℤ◌, ◌-ℤ◌, ◌≤ℤ◌, ◌<ℤ◌, refl, sym, ap, subst, arith}
use mathlib.Core.Bool.{true≢false}
use mathlib.Core.Logic.{inl, ⊎_elim}
use Rattle.cal_days.specs.Division.{floor_mod}
use Rattle.cal_days.proofs.DivisionLemmas.{floor_parts}
use Rattle.cal_days.proofs.Signed.{signed}
use Rattle.cal_types.specs.CalendarList.{CalendarList, IsLawful}
use Rattle.cal_types.proofs.ListLemmas.{on-finds}
use Rattle.cal_rule.specs.Sets.{has_weekday}
use Rattle.cal_rule.specs.declared.frequency.Frequency.{Frequency}
use Rattle.cal_rule.specs.declared.frequency.Frequency.TheVariants.{Yearly, Weekly}
use Rattle.cal_rule.specs.declared.place_set.Place.{Place}
use Rattle.cal_rule.specs.declared.rule.RecurrenceRule.{RecurrenceRule}
use Rattle.cal_rule.specs.declared.weekday_places.WeekdayPlace.{WeekdayPlace}
use Rattle.cal_rrule.specs.Looks.{CountsInMonths}
use Rattle.cal_rrule.specs.Masks.{Adds, InRow, IsStep, IsWeekdayIn, Marks}
use Rattle.cal_rrule.specs.Periods.{IsOfMonths, IsOfWeekdays, NoMonths, NoWeekdays}
use Rattle.cal_rrule.specs.Stretches.{Stretch, end_of, month_stretch}
use Rattle.cal_rrule.specs.Weekly.{IsPlain, IsWeeklyDay, IsWeeklyWeekday}
use Rattle.cal_rrule.specs.Weeks.{HasOrdinal, IsAmongWeekdays}
use Rattle.cal_rrule.proofs.MonthDayLemmas.{marks-as}
use Rattle.recurrence_sets.specs.PeriodBits.{has_day}
use Rattle.recurrence_sets.specs.declared.period_days.PeriodDays.{PeriodDays}

-- the first day of a weekday from a day on
pub same-weekday : (from day rest : ℤ) → rest ≡ pos (floor_mod (day -ℤ from) 7) →
    floor_mod (from +ℤ rest) 7 ≡ floor_mod day 7
same-weekday from day rest is =
    let one = floor_parts (day -ℤ from) 7 (omega arith) in
    let two = floor_parts (from +ℤ rest) 7 (omega arith) in
    let three = floor_parts day 7 (omega arith) in
    omega (arith, signed, is, one, two, three)

-- every seventh day from it on are the days of its weekday
step-in : (first day n : ℤ) (k : ℕ) → floor_mod first 7 ≡ floor_mod day 7 → n ≡ first +ℤ pos (7 * k) →
    floor_mod n 7 ≡ floor_mod day 7
step-in first day n k same is =
    let one = floor_parts first 7 (omega arith) in
    let two = floor_parts n 7 (omega arith) in
    omega (arith, signed, same, is, one, two)

step-out : (from first day n : ℤ) (weeks : ℕ) → floor_mod first 7 ≡ floor_mod day 7 → from ≤ℤ first →
    first ≤ℤ (from +ℤ pos 6) → from ≤ℤ n → n <ℤ (from +ℤ pos (7 * weeks)) → floor_mod n 7 ≡ floor_mod day 7 →
    IsStep first 7 weeks n
step-out from first day n weeks same low high above below of = by_offset (n -ℤ first) refl
  where
    by_offset : (z : ℤ) → n -ℤ first ≡ z → IsStep first 7 weeks n
    by_offset (pos a) e =
        let one = floor_parts first 7 (omega arith) in
        let two = floor_parts n 7 (omega arith) in
        let whole : 7 * (a / 7) ≡ a = omega (arith, signed, same, of, one, two, e) in
        (a / 7, omega (arith, signed, whole, e, low, below), omega (arith, signed, whole, e))
    by_offset (negsuc a) e =
        let one = floor_parts first 7 (omega arith) in
        let two = floor_parts n 7 (omega arith) in
        absurd (omega (arith, signed, same, of, one, two, e, high, above))

pub same-marks : (old new : PeriodDays) (from first day : ℤ) (weeks : ℕ) → old.first ≡ from →
    ((n : ℤ) → has_day old n ≡ false) → Adds old new (IsStep first 7 weeks) → weeks ≤ 63 →
    floor_mod first 7 ≡ floor_mod day 7 → from ≤ℤ first → first ≤ℤ (from +ℤ pos 6) →
    Marks new from (from +ℤ pos (7 * weeks)) (λ n. floor_mod n 7 ≡ floor_mod day 7)
same-marks old new from first day weeks begins none adds few same low high = record {
  first = adds.first ∙ begins;
  days = λ n above below.
      let row : InRow old n = (omega (arith, signed, begins, above), omega (arith, signed, begins, below, few)) in
      let here = adds.days n row in (
        λ h. ⊎_elim (λ p. step-in first day n p.0 same p.2) (λ q. absurd (true≢false (sym q ∙ none n))) (here.0 h),
        λ of. here.1 (inl (step-out from first day n weeks same low high above below of)),
      );
}

-- WEEKLY counts weekdays in months
pub weekly-months : (rule : RecurrenceRule) → rule.frequency ≡ Weekly → CountsInMonths rule
weekly-months rule weekly h = never (sym weekly ∙ h.0)
  where
    never : ◌≡◌ {A = Frequency} Weekly Yearly → ⊥
    never e = cc

-- a weekday without an ordinal is one in any stretch
plain-among : (rule : RecurrenceRule) (s r : Stretch) (n : ℤ) → IsPlain rule.weekdays →
    IsAmongWeekdays rule.weekdays s n → IsAmongWeekdays rule.weekdays r n
plain-among rule s r n plain h = by_ordinal h.0.ordinal refl
  where
    by_ordinal : (o : Option Place) → h.0.ordinal ≡ o → IsAmongWeekdays rule.weekdays r n
    by_ordinal None e = (h.0, h.1, h.2, subst (λ (o : Option Place). HasOrdinal r n o) (sym e) tt)
    by_ordinal (Some p) e =
        let same : h.0 ≡ record { day = h.0.day; ordinal = Some p } =
        ap (λ (o : Option Place). record { day = h.0.day; ordinal = o }) e in
        let has : IsTrue (has_weekday rule.weekdays (record { day = h.0.day; ordinal = Some p })) =
        subst (λ (w : WeekdayPlace). IsTrue (has_weekday rule.weekdays w)) same h.1 in
        absurd (true≢false (sym has ∙ plain h.0.day p))

pub plain-weekdays : (c : CalendarList) → IsLawful c → (rule : RecurrenceRule) (s : Stretch) (n : ℤ) → CountsInMonths rule →
    IsPlain rule.weekdays → IsAmongWeekdays rule.weekdays s n ↔ IsOfWeekdays c rule n
plain-weekdays c law rule s n counts plain = (
  λ h. let own = on-finds c law n in (
    own.0,
    own.1,
    month_stretch c (own.0.year, own.0.month),
    (λ _. refl, λ yearly. absurd (counts yearly)),
    plain-among rule s (month_stretch c (own.0.year, own.0.month)) n plain h,
  ),
  λ h. plain-among rule h.2 s n plain h.4,
)

pub plain-marks : (c : CalendarList) → IsLawful c → (rule : RecurrenceRule) (s : Stretch) (old new : PeriodDays) →
    CountsInMonths rule → IsPlain rule.weekdays → s.days ≤ 448 → old.first ≡ s.first → ((n : ℤ) → has_day old n ≡ false) →
    Adds old new (IsWeekdayIn rule.weekdays s) → Marks new s.first (end_of s) (IsOfWeekdays c rule)
plain-marks c law rule s old new counts plain few begins none adds = record {
  first = adds.first ∙ begins;
  days = λ n above below.
      let row : InRow old n = (omega (arith, signed, begins, above), omega (arith, signed, begins, below, few)) in
      let here = adds.days n row in
      let same = plain-weekdays c law rule s n counts plain in (
        λ h. ⊎_elim (λ p. same.0 p.1) (λ q. absurd (true≢false (sym q ∙ none n))) (here.0 h),
        λ of. here.1 (inl ((above, below), same.1 of)),
      );
}

module _ (c : CalendarList) (rule : RecurrenceRule) (start from to : ℤ) (days : PeriodDays) where
  -- the start's weekday where BYDAY isn't there
  pub weekday-start : NoWeekdays rule → Marks days from to (λ n. floor_mod n 7 ≡ floor_mod start 7) →
      Marks days from to (IsWeeklyWeekday c rule start)
  weekday-start none marks = marks-as days from to (λ n. floor_mod n 7 ≡ floor_mod start 7) (IsWeeklyWeekday c rule start) marks
      (λ n. (λ p. (λ there. absurd (there none), λ _. p), λ p. p.1 none))

  -- and BYDAY where it is
  pub weekday-rule : ¬ (NoWeekdays rule) → Marks days from to (IsOfWeekdays c rule) →
      Marks days from to (IsWeeklyWeekday c rule start)
  weekday-rule there marks = marks-as days from to (IsOfWeekdays c rule) (IsWeeklyWeekday c rule start) marks
      (λ n. (λ p. (λ _. p, λ none. absurd (there none)), λ p. p.0 there))

  -- and days whose months BYMONTH has
  pub weekly-kept : (old : PeriodDays) → Marks old from to (IsWeeklyWeekday c rule start) → days.first ≡ old.first →
      ((n : ℤ) → from ≤ℤ n → n <ℤ to → IsTrue (has_day days n)
      ↔ (IsTrue (has_day old n) × (¬ (NoMonths rule) → IsOfMonths c rule n))) →
      Marks days from to (IsWeeklyDay c rule start)
  weekly-kept old marks first kept = record {
    first = first ∙ marks.first;
    days = λ n above below.
        let here = kept n above below in
        let named = marks.days n above below in (
          λ h. let p = here.0 h in record { month = p.1; weekday = named.0 p.0 },
          λ d. here.1 (named.1 d.weekday, d.month),
        );
  }
