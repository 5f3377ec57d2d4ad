-- Looks at years, and the days that a rule names in a month of a year.
use Rattle.std.proofs.Common.{◌≡◌, ◌∙◌, ℕ, ◌≤◌, ◌↔◌, ◌&&◌, IsTrue, false, ℤ, pos, negsuc, ◌+ℤ◌, ◌-ℤ◌, ◌≤ℤ◌, ◌<ℤ◌, refl, sym, ap, subst, arith}
use mathlib.Core.Bool.{true≢false}
use mathlib.Core.Logic.{inl, inr, ⊎_elim}
use Rattle.std.proofs.lemmas.Bool.{and_parts}
use Rattle.cal_days.proofs.Signed.{signed}
use Rattle.cal_types.specs.CalendarList.{CalendarList, Date, IsOn, start_of_year, year_length}
use Rattle.cal_types.proofs.ListLemmas.{date-in_year, date-within, on-unique}
use Rattle.cal_rule.specs.declared.place_set.Place.{Place}
use Rattle.cal_rule.specs.declared.place_set.Place.TheVariants.{FromFront}
use Rattle.cal_rule.specs.declared.rule.RecurrenceRule.{RecurrenceRule}
use Rattle.cal_rrule.specs.Looks.{AreMissing, CountsInYears, IsNamedInYearMonth, IsYearLook, look_year}
use Rattle.cal_rrule.specs.Masks.{Adds, InRow, IsNamedBy, IsWeekdayIn, Marks}
use Rattle.cal_rrule.specs.Periods.{IsOfWeekdays, NoDays, NoMonthDays}
use Rattle.cal_rrule.specs.Stretches.{InStretch, NamesDay, Stretch, end_of, year_stretch}
use Rattle.cal_rrule.specs.Weeks.{IsAmongWeekdays}
use Rattle.cal_rrule.specs.declared.missing.Missing.{Missing}
use Rattle.cal_rrule.specs.declared.year_look.YearLook.{YearLook}
use Rattle.cal_rrule.proofs.MaskLemmas.{adds-as}
use Rattle.recurrence_sets.specs.PeriodBits.{has_day}
use Rattle.recurrence_sets.specs.declared.period_days.PeriodDays.{PeriodDays}

-- a year that is looked at by one of its days
pub year-of : (c : CalendarList) (n : ℤ) (t : Date) (look : YearLook) → IsOn c n t → look.year ≡ t.year →
    look.first ≡ start_of_year c t.year → look.days ≡ year_length c t.year → IsYearLook c look
year-of c n t look on year first days = record {
  is_start = first ∙ ap (λ (y : ℤ). start_of_year c y) (sym year);
  is_whole = days ∙ ap (λ (y : ℤ). year_length c y) (sym year);
}

pub year-within : (c : CalendarList) (n : ℤ) (t : Date) (first : ℤ) (days : ℕ) → IsOn c n t →
    first ≡ start_of_year c t.year → days ≡ year_length c t.year → (first ≤ℤ n) × (n <ℤ (first +ℤ pos days))
year-within c n t first days on begins length =
    let most = date-in_year c t on.date in
    (omega (arith, signed, begins, on.day), omega (arith, signed, begins, length, on.day, most, on.date.day.0))

abbrev made : ℤ → ℕ → Stretch
made f d = record { first = f; days = d }

pub year-stretch : (c : CalendarList) (look : YearLook) → IsYearLook c look → look_year look ≡ year_stretch c look.year
year-stretch c look is =
    ap (λ (f : ℤ). made f look.days) is.is_start ∙ ap (λ (d : ℕ). made (start_of_year c look.year) d) is.is_whole

-- a day of a year is on a date of it
pub year-on : (c : CalendarList) (look : YearLook) (n : ℤ) → IsYearLook c look → InStretch (look_year look) n →
    (t : Date) × IsOn c n t × (t.year ≡ look.year)
year-on c look n is within = by_offset (n -ℤ look.first) refl
  where
    by_offset : (z : ℤ) → n -ℤ look.first ≡ z → (t : Date) × IsOn c n t × (t.year ≡ look.year)
    by_offset (pos a) e =
        let found = date-within c look.year a (omega (arith, signed, e, within.1, is.is_whole)) in
        let same : start_of_year c look.year +ℤ pos a ≡ n = omega (arith, signed, e, is.is_start) in
        (found.0, subst (λ (m : ℤ). IsOn c m found.0) same found.1, found.2)
    by_offset (negsuc a) e = absurd (omega (arith, signed, e, within.0))

-- BYDAY of a day of a year, where weekdays are counted in the year
pub year-weekdays : (c : CalendarList) (rule : RecurrenceRule) (look : YearLook) (n : ℤ) → IsYearLook c look →
    CountsInYears rule → InStretch (look_year look) n →
    IsAmongWeekdays rule.weekdays (look_year look) n ↔ IsOfWeekdays c rule n
year-weekdays c rule look n is counts within = (
  λ h. let own = year-on c look n is within in
      let same : look_year look ≡ year_stretch c own.0.year =
      year-stretch c look is ∙ ap (λ (y : ℤ). year_stretch c y) (sym own.2) in (
        own.0,
        own.1,
        year_stretch c own.0.year,
        (λ none. absurd (none counts), λ _. refl),
        subst (λ (s : Stretch). IsAmongWeekdays rule.weekdays s n) same h,
      ),
  λ h. let own = year-on c look n is within in
      let date_is : h.0 ≡ own.0 = on-unique c n h.0 own.0 h.1 own.1 in
      let year_is : h.0.year ≡ look.year = ap (λ (u : Date). u.year) date_is ∙ own.2 in
      let named : h.2 ≡ year_stretch c h.0.year = h.3.1 counts in
      let same : h.2 ≡ look_year look = named ∙ ap (λ (y : ℤ). year_stretch c y) year_is ∙ sym (year-stretch c look is) in
      subst (λ (s : Stretch). IsAmongWeekdays rule.weekdays s n) same h.4,
)

pub year-marks : (c : CalendarList) (rule : RecurrenceRule) (look : YearLook) (old new : PeriodDays) → IsYearLook c look →
    CountsInYears rule → look.days ≤ 403 → old.first ≡ look.first → ((n : ℤ) → has_day old n ≡ false) →
    Adds old new (IsWeekdayIn rule.weekdays (look_year look)) →
    Marks new look.first (end_of (look_year look)) (IsOfWeekdays c rule)
year-marks c rule look old new is counts short first none adds = record {
  first = adds.first ∙ first;
  days = λ n from to.
      let row : InRow old n = (omega (arith, signed, first, from), omega (arith, signed, first, to, short)) in
      let here = adds.days n row in
      let same = year-weekdays c rule look n is counts (from, to) in (
        λ h. ⊎_elim (λ p. same.0 p.1) (λ q. absurd (true≢false (sym q ∙ none n))) (here.0 h),
        λ h. here.1 (inl ((from, to), same.1 h)),
      );
}

-- no part names days
pub no-days : (rule : RecurrenceRule) (missing : Missing) → AreMissing rule missing →
    IsTrue ((missing.weeks && missing.year_days) && (missing.month_days && missing.weekdays)) ↔ NoDays rule
no-days rule missing are = (
  λ h. let parts = and_parts (missing.weeks && missing.year_days) (missing.month_days && missing.weekdays) h in
      let one = and_parts missing.weeks missing.year_days parts.0 in
      let two = and_parts missing.month_days missing.weekdays parts.1 in
      (are.no_weeks.0 one.0, are.no_year_days.0 one.1, are.no_month_days.0 two.0, are.no_weekdays.0 two.1),
  λ p. rw (are.no_weeks.1 p.0, are.no_year_days.1 p.1, are.no_month_days.1 p.2, are.no_weekdays.1 p.3) refl,
)

module _ (rule : RecurrenceRule) (day : ℕ) (s : Stretch) (old new : PeriodDays) where
  -- BYMONTHDAY
  pub year-by_days : ¬ (NoMonthDays rule) → Adds old new (IsNamedBy rule.month_days rule.skip s) →
      Adds old new (IsNamedInYearMonth rule day s)
  year-by_days there adds = adds-as old new (IsNamedBy rule.month_days rule.skip s) (IsNamedInYearMonth rule day s) adds
      (λ n. (
        λ p. (λ _. (p.0, inl p.1, p.2), λ both. absurd (there both.0)),
        λ p. let q = p.0 (λ both. there both.0) in
            ⊎_elim (λ has. (q.0, has, q.2)) (λ none. absurd (there none.0.2)) q.1,
      ))

  -- the start's day of the month
  pub year-by_start : NoMonthDays rule → NoDays rule → Adds old new (NamesDay rule.skip s (FromFront day)) →
      Adds old new (IsNamedInYearMonth rule day s)
  year-by_start lacks none adds = adds-as old new (NamesDay rule.skip s (FromFront day)) (IsNamedInYearMonth rule day s) adds
      (λ n. (
        λ p. (λ _. (FromFront day, inr (none, refl), p), λ both. absurd (both.1 none)),
        λ p. let q = p.0 (λ both. both.1 none) in
            ⊎_elim (λ has. absurd (true≢false (sym has ∙ lacks q.0)))
            (λ is. subst (λ (d : Place). NamesDay rule.skip s d n) is.1 q.2) q.1,
      ))

  -- all days of the month
  pub year-by_month : NoMonthDays rule → ¬ (NoDays rule) → Adds old new (InStretch s) →
      Adds old new (IsNamedInYearMonth rule day s)
  year-by_month lacks some adds = adds-as old new (InStretch s) (IsNamedInYearMonth rule day s) adds
      (λ n. (λ p. (λ none. absurd (none (lacks, some)), λ _. p), λ p. p.1 (lacks, some)))
