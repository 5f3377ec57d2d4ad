-- Recurrence rules that say the same have the same days and the same occurrences. Their sets may differ as words, past
-- the values that are asked for.
use Rattle.std.proofs.Common.{◌≡◌, ◌∙◌, ℕ, ◌*◌, ◌⊎◌, inl, inr, List, sym, ℤ, pos, ◌+ℤ◌, ◌<ℤ◌}
use Rattle.std.specs.Prelude.{IsTrue}
use Rattle.std.proofs.lemmas.Option.{same_Some}
use mathlib.Core.HProp.{h_prop_ext}
use mathlib.Core.Logic.{∥∥₁_map, ∥∥₁_prop}
use mathlib.Core.Path.{fun_ext}
use Rattle.cal_kinds.specs.declared.any_calendar_kind.AnyCalendarKind.{AnyCalendarKind}
use Rattle.cal_types.specs.CalendarList.{CalendarList, Date, day_number}
use Rattle.cal_types.specs.Month.{MonthParts}
use Rattle.cal_rule.specs.RuleText.{IsRuleText}
use Rattle.cal_rule.specs.Sets.{has_month, has_place, has_weekday}
use Rattle.cal_rule.specs.declared.frequency.Frequency.{Frequency}
use Rattle.cal_rule.specs.declared.frequency.Frequency.TheVariants.{Yearly, Monthly, Weekly, Daily}
use Rattle.cal_rule.specs.declared.place_set.Place.{Place}
use Rattle.cal_rule.specs.declared.place_set.Place.TheVariants.{FromFront, FromBack}
use Rattle.cal_rule.specs.declared.rule.RecurrenceRule.{RecurrenceRule}
use Rattle.cal_rule.specs.declared.weekday_places.WeekdayPlace.{WeekdayPlace}
use Rattle.cal_rrule.specs.Occurrences.{AreOccurrences, IsKept, Occurs}
use Rattle.cal_rrule.specs.Periods.{Given, IsKeptDay, IsMissing, IsNamedInMonth, IsNamedInWeek, IsNamedInWeeks, IsNamedInYear, IsOfPeriod, IsOfPeriods, IsOfYears, NoWeeks}
use Rattle.cal_rrule.specs.Weeks.{BelongsTo, IsWeekOf, weeks_behind}
use Rattle.recurrence_sets.specs.Days.{HasPlaceAmong}
use Rattle.recurrence_sets.specs.Occurrences.{IsOfSome}
use Rattle.recurrence_sets.specs.declared.occurrence.Occurrence.{Occurrence}
use Rattle.recurrence_sets.proofs.DayLemmas.{count-like}

-- two rules say the same: their numbers and words are the same, and their sets have the same values
pub record Alike (a b : RecurrenceRule) : Type 0 where
  pub frequency : a.frequency ≡ b.frequency
  pub interval : a.interval ≡ b.interval
  pub count : a.count ≡ b.count
  pub until : a.until ≡ b.until
  pub week_start : a.week_start ≡ b.week_start
  pub skip : a.skip ≡ b.skip
  pub months : (m : MonthParts) → has_month a.months m ≡ has_month b.months m
  pub month_days : (p : Place) → has_place a.month_days p ≡ has_place b.month_days p
  pub year_days : (p : Place) → has_place a.year_days p ≡ has_place b.year_days p
  pub weeks : (p : Place) → has_place a.weeks p ≡ has_place b.weeks p
  pub positions : (p : Place) → has_place a.positions p ≡ has_place b.positions p
  pub weekdays : (w : WeekdayPlace) → has_weekday a.weekdays w ≡ has_weekday b.weekdays w

-- two rules that are said by one text say the same
pub said-alike : (kind : AnyCalendarKind) (text : List ℕ) (a b : RecurrenceRule) →
    IsRuleText kind text a → IsRuleText kind text b → Alike a b
said-alike kind text a b one two = record {
  frequency = same_Some a.frequency b.frequency (sym one.says.frequency ∙ two.says.frequency);
  interval = one.says.interval ∙ sym two.says.interval;
  count = one.says.count ∙ sym two.says.count;
  until = one.says.until ∙ sym two.says.until;
  week_start = one.says.week_start ∙ sym two.says.week_start;
  skip = one.says.skip ∙ sym two.says.skip;
  months = λ m. one.says.months m ∙ sym (two.says.months m);
  month_days = λ p. one.says.month_days p ∙ sym (two.says.month_days p);
  year_days = λ p. one.says.year_days p ∙ sym (two.says.year_days p);
  weeks = λ p. one.says.weeks p ∙ sym (two.says.weeks p);
  positions = λ p. one.says.positions p ∙ sym (two.says.positions p);
  weekdays = λ w. one.says.weekdays w ∙ sym (two.says.weekdays w);
}

-- a rule says what another says, if that one says what it says
pub alike-back : {a b : RecurrenceRule} → Alike a b → Alike b a
alike-back same = record {
  frequency = sym same.frequency;
  interval = sym same.interval;
  count = sym same.count;
  until = sym same.until;
  week_start = sym same.week_start;
  skip = sym same.skip;
  months = λ m. sym (same.months m);
  month_days = λ p. sym (same.month_days p);
  year_days = λ p. sym (same.year_days p);
  weeks = λ p. sym (same.weeks p);
  positions = λ p. sym (same.positions p);
  weekdays = λ w. sym (same.weekdays w);
}

-- ---- days of periods

module _ (c : CalendarList) {a b : RecurrenceRule} (same : Alike a b) (t : Date) where
  -- a day that one rule names in a year is one that the other names in it
  named_in_year : (y n : ℤ) → IsNamedInYear c a t y n → IsNamedInYear c b t y n
  named_in_year y n h = record {
    month_day =
        simp (same.skip, same.months, same.month_days, same.year_days, same.weeks, same.weekdays) at h.month_day;
    year_day = simp (same.skip, same.year_days) at h.year_day;
    weekday = simp (same.frequency, same.months, same.weekdays) at h.weekday;
  }

  -- the same by weeks of a year
  named_in_weeks : (y n : ℤ) → IsNamedInWeeks c a t y n → IsNamedInWeeks c b t y n
  named_in_weeks y n h = record {
    week = simp (same.week_start, same.weeks) at h.week;
    named = (h.named.0, named_in_year h.named.0 n h.named.1);
    weekday = simp (same.year_days, same.month_days, same.weekdays) at h.weekday;
  }

  -- the same in a month
  named_in_month : (found : ℤ × ℕ) (n : ℤ) → IsNamedInMonth c a t found n → IsNamedInMonth c b t found n
  named_in_month found n h = record {
    month = simp same.months at h.month;
    month_day = simp (same.skip, same.month_days) at h.month_day;
    weekday = simp (same.frequency, same.months, same.weekdays) at h.weekday;
    within = simp (same.month_days, same.weekdays) at h.within;
    start_day = simp (same.skip, same.month_days, same.weekdays) at h.start_day;
  }

  -- the same in a week
  named_in_week : (w n : ℤ) → IsNamedInWeek c a t w n → IsNamedInWeek c b t w n
  named_in_week w n h = record {
    within = h.within;
    month = simp same.months at h.month;
    weekday = simp (same.frequency, same.months, same.weekdays) at h.weekday;
  }

  -- a day that one rule keeps under DAILY is one that the other keeps
  kept_day : (n : ℤ) → IsKeptDay c a n → IsKeptDay c b n
  kept_day n h = record {
    month = simp same.months at h.month;
    month_day = simp same.month_days at h.month_day;
    weekday = simp (same.frequency, same.months, same.weekdays) at h.weekday;
  }

  -- a day of a year of one rule is one of the other's
  of_years : (years : ℕ) (n : ℤ) → IsOfYears c a t years n → IsOfYears c b t years n
  of_years years n h = simp (same.week_start, same.weeks) at named where
    named : Given (NoWeeks a)
        ((y w : ℤ) × IsWeekOf a.week_start (day_number c t) w × BelongsTo c y w
        × IsNamedInWeeks c b t (y +ℤ pos years) n)
        (IsNamedInYear c b t (t.year +ℤ pos years) n)
    named = (
      λ there. let (y, w, week, belongs, names) = h.0 there in
          (y, w, week, belongs, named_in_weeks (y +ℤ pos years) n names),
      λ lacks. named_in_year (t.year +ℤ pos years) n (h.1 lacks),
    )

  -- the same of the periods of a frequency
  of_periods : (f : Frequency) (count : ℕ) (n : ℤ) → IsOfPeriods f c a t count n → IsOfPeriods f c b t count n
  of_periods Yearly count n h = of_years count n h
  of_periods Monthly count n (found, after, named) = (found, after, named_in_month found n named)
  of_periods Weekly count n (w, week, named) =
      (w, simp same.week_start at week, named_in_week (weeks_behind w count) n named)
  of_periods Daily count n (on, kept) = (on, kept_day n kept)

  -- a day of a period of one rule is one of the other's
  of_period : (k : ℕ) (n : ℤ) → IsOfPeriod c a t k n → IsOfPeriod c b t k n
  of_period k n h = simp (same.frequency, same.interval) at (of_periods a.frequency (k * a.interval) n h)

-- ---- days that are kept

-- places among days of two kinds that have the same days
place-like : (P Q : ℤ → Type 0) → ((m : ℤ) → P m → Q m) → ((m : ℤ) → Q m → P m) → (n : ℤ) (p : Place) →
    HasPlaceAmong P n p → HasPlaceAmong Q n p
place-like P Q to from n (FromFront k) (i, at, count) =
    let same = count-like (λ m. P m × (m <ℤ n)) (λ m. Q m × (m <ℤ n)) i in
    (i, at, same (λ m p. (to m p.0, p.1)) (λ m q. (from m q.0, q.1)) count)
place-like P Q to from n (FromBack k) (i, at, count) =
    let same = count-like (λ m. P m × (n <ℤ m)) (λ m. Q m × (n <ℤ m)) i in
    (i, at, same (λ m p. (to m p.0, p.1)) (λ m q. (from m q.0, q.1)) count)

module _ (c : CalendarList) {a b : RecurrenceRule} (same : Alike a b) (t : Date) where
  -- a day that one rule keeps of a period is one that the other keeps of it
  kept : (k : ℕ) (n : ℤ) → IsKept c a t k n → IsKept c b t k n
  kept k n h = (of_period c same t k n h.0, simp same.positions at (placed h.1)) where
    placed : IsMissing has_place a.positions
        ⊎ ((p : Place) × IsTrue (has_place a.positions p) × HasPlaceAmong (IsOfPeriod c a t k) n p) →
        IsMissing has_place a.positions
        ⊎ ((p : Place) × IsTrue (has_place a.positions p) × HasPlaceAmong (IsOfPeriod c b t k) n p)
    placed (inl missing) = inl missing
    placed (inr (p, has, among)) = inr (
      p,
      has,
      place-like (IsOfPeriod c a t k) (IsOfPeriod c b t k) (of_period c same t k)
          (of_period c (alike-back same) t k) n p among,
    )

  -- the same, of some period
  of_some : (n : ℤ) → IsOfSome (IsKept c a t) n → IsOfSome (IsKept c b t) n
  of_some n some = ∥∥₁_map some (λ (k, h). (k, kept k n h))

-- two rules that say the same keep the same days, whatever the periods of these are
pub alike-days : (c : CalendarList) (a b : RecurrenceRule) (t : Date) → Alike a b →
    IsOfSome (IsKept c a t) ≡ IsOfSome (IsKept c b t)
alike-days c a b t same =
    fun_ext (λ n. h_prop_ext ∥∥₁_prop ∥∥₁_prop (of_some c same t n) (of_some c (alike-back same) t n))

-- two rules that say the same have the same occurrences
pub alike-occurrences : (c : CalendarList) (a b : RecurrenceRule) (t : Date) (first last : ℤ) (xs : List Occurrence) →
    Alike a b → AreOccurrences c a t first last xs → AreOccurrences c b t first last xs
alike-occurrences c a b t first last xs same are = simp (alike-days c a b t same, same.until, same.count) at are

-- and each occurrence of one is one of the other
pub alike-occurs : (c : CalendarList) (a b : RecurrenceRule) (t : Date) (index : ℕ) (n : ℤ) → Alike a b → Occurs c a t index n → Occurs c b t index n
alike-occurs c a b t index n same occurs = simp (alike-days c a b t same, same.until, same.count) at occurs
