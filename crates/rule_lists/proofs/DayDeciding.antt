-- Whether a place names a day, and whether the parts of a rule hold of a day.
use Rattle.std.proofs.Common.{◌≡◌, ◌-◌, Option, Some, None, refl, ℤ, pos, ◌+ℤ◌, ◌-ℤ◌}
use Rattle.cal_days.specs.Division.{floor_mod}
use Rattle.cal_types.specs.CalendarList.{CalendarList, Date, IsLawful, IsOn, month_at}
use Rattle.cal_types.specs.DayDates.{date_on}
use Rattle.cal_types.specs.Weekday.{days_since_sunday}
use Rattle.cal_types.proofs.DayDateLemmas.{date_on-on}
use Rattle.cal_types.proofs.ListLemmas.{on-unique}
use Rattle.cal_rule.specs.Sets.{has_month}
use Rattle.cal_rule.specs.declared.frequency.Frequency.{Frequency}
use Rattle.cal_rule.specs.declared.frequency.Frequency.TheVariants.{Yearly, Monthly, Weekly, Daily}
use Rattle.cal_rule.specs.declared.place_set.Place.{Place}
use Rattle.cal_rule.specs.declared.place_set.Place.TheVariants.{FromFront, FromBack}
use Rattle.cal_rule.specs.declared.rule.RecurrenceRule.{RecurrenceRule}
use Rattle.cal_rule.specs.declared.skip.Skip.{Skip}
use Rattle.cal_rule.specs.declared.skip.Skip.TheVariants.{Omit, Backward, Forward}
use Rattle.cal_rule.specs.declared.weekday_places.WeekdayPlaces.{WeekdayPlaces}
use Rattle.cal_rrule.specs.Periods.{CountsIn, Given, IsKeptDay, IsOfMonthDays, IsOfMonths, IsOfWeekdays, NoDays, NoMonthDays, NoMonths, NoWeekdays, NoWeeks, NoYearDays}
use Rattle.cal_rrule.specs.Stretches.{InStretch, NamesDay, ReplacesBefore, ReplacesBehind, Stretch, end_of, month_stretch, year_stretch}
use Rattle.cal_rrule.specs.Weeks.{BelongsTo, HasOrdinal, IsAmongWeekdays, IsNth, IsWeekNumber, weeks_before, weeks_behind}
use Rattle.rule_lists.proofs.Deciding.{both, denied, either, four, implied, is_less, is_less_z, is_most, is_most_z, is_same, is_same_z, like, of_one, three, truth}
use Rattle.rule_lists.proofs.SetDeciding.{no_months, no_places, no_weekdays, some_place, some_weekday}

pub in_stretch : (s : Stretch) (n : ℤ) → Dec (InStretch s n)
in_stretch s n = both (is_most_z s.first n) (is_less_z n (end_of s))

replaces_behind : (skip : Skip) (s : Stretch) (n : ℤ) → Dec (ReplacesBehind skip s n)
replaces_behind Omit s n = no (λ h. h)
replaces_behind Backward s n = is_same_z n (end_of s -ℤ pos 1)
replaces_behind Forward s n = is_same_z n (end_of s)

replaces_before : (skip : Skip) (s : Stretch) (n : ℤ) → Dec (ReplacesBefore skip s n)
replaces_before Omit s n = no (λ h. h)
replaces_before Backward s n = is_same_z n (s.first -ℤ pos 1)
replaces_before Forward s n = is_same_z n s.first

pub names_day : (skip : Skip) (s : Stretch) (d : Place) (n : ℤ) → Dec (NamesDay skip s d n)
names_day skip s (FromFront d) n =
    either (three (is_most 1 d) (is_most d s.days) (is_same_z n (s.first +ℤ pos d -ℤ pos 1)))
    (both (is_less s.days d) (replaces_behind skip s n))
names_day skip s (FromBack d) n =
    either (three (is_most 1 d) (is_most d s.days) (is_same_z n (end_of s -ℤ pos d)))
    (both (is_less s.days d) (replaces_before skip s n))

-- one thing if a part is there, and another if it is missing
pub given : {Missing There Otherwise : Type 0} → Dec Missing → Dec There → Dec Otherwise → Dec (Given Missing There Otherwise)
given missing there otherwise = both (implied (denied missing) there) (implied missing otherwise)

pub is_yearly : (f : Frequency) → Dec (f ≡ Yearly)
is_yearly Yearly = yes refl
is_yearly Monthly = no (λ e. cc)
is_yearly Weekly = no (λ e. cc)
is_yearly Daily = no (λ e. cc)

-- the k-th of the days of a kind that lie whole weeks apart
nth : (Is : ℤ → Type 0) → ((n : ℤ) → Dec (Is n)) → (n : ℤ) (k : Place) → Dec (IsNth Is n k)
nth Is decide n (FromFront k) =
    four (is_most 1 k) (decide n) (decide (weeks_before n (k - 1))) (denied (decide (weeks_before n k)))
nth Is decide n (FromBack k) =
    four (is_most 1 k) (decide n) (decide (weeks_behind n (k - 1))) (denied (decide (weeks_behind n k)))

pub week_number : (c : CalendarList) (y w : ℤ) (k : Place) → Dec (IsWeekNumber c y w k)
week_number c y w k = nth (BelongsTo c y) (λ v. in_stretch (year_stretch c y) (v +ℤ pos 3)) w k

has_ordinal : (s : Stretch) (n : ℤ) (k : Option Place) → Dec (HasOrdinal s n k)
has_ordinal s n None = yes tt
has_ordinal s n (Some k) = nth (InStretch s) (in_stretch s) n k

among_weekdays : (set : WeekdayPlaces) (s : Stretch) (n : ℤ) → Dec (IsAmongWeekdays set s n)
among_weekdays set s n =
    like (λ (w, has, (day, place)). (w, has, day, place)) (λ (w, has, day, place). (w, has, (day, place)))
    (some_weekday set (λ w. both (is_same (floor_mod n 7) (days_since_sunday w.day)) (has_ordinal s n w.ordinal)))

module _ (rule : RecurrenceRule) where
  pub lacks_months : Dec (NoMonths rule)
  lacks_months = no_months rule.months

  pub lacks_month_days : Dec (NoMonthDays rule)
  lacks_month_days = no_places rule.month_days

  pub lacks_year_days : Dec (NoYearDays rule)
  lacks_year_days = no_places rule.year_days

  pub lacks_weeks : Dec (NoWeeks rule)
  lacks_weeks = no_places rule.weeks

  pub lacks_weekdays : Dec (NoWeekdays rule)
  lacks_weekdays = no_weekdays rule.weekdays

  pub lacks_days : Dec (NoDays rule)
  lacks_days = four lacks_weeks lacks_year_days lacks_month_days lacks_weekdays

module _ (c : CalendarList) (law : IsLawful c) (rule : RecurrenceRule) where
  -- what is said of the date of a day
  on_date : {R : Date → Type 0} → ((t : Date) → Dec (R t)) → (n : ℤ) → Dec ((t : Date) × IsOn c n t × R t)
  on_date decide n =
      let here = date_on-on c law n in
      of_one (date_on c n) here (λ u on. on-unique c n u (date_on c n) on here) (decide (date_on c n))

  -- what is said of the stretch in which weekdays are counted
  in_counted : {R : Stretch → Type 0} → ((s : Stretch) → Dec (R s)) → (t : Date) → Dec ((s : Stretch) × CountsIn c rule t s × R s)
  in_counted {R} decide t = by (both (is_yearly rule.frequency) (lacks_months rule))
    where
      by : Dec ((rule.frequency ≡ Yearly) × NoMonths rule) → Dec ((s : Stretch) × CountsIn c rule t s × R s)
      by (yes h) =
          of_one (year_stretch c t.year) (λ never. absurd (never h), λ _. refl) (λ s counts. counts.1 h)
          (decide (year_stretch c t.year))
      by (no never) =
          of_one (month_stretch c (t.year, t.month)) (λ _. refl, λ h. absurd (never h)) (λ s counts. counts.0 never)
          (decide (month_stretch c (t.year, t.month)))

  pub of_weekdays : (n : ℤ) → Dec (IsOfWeekdays c rule n)
  of_weekdays n =
      like (λ (t, on, (s, counts, among)). (t, on, s, counts, among)) (λ (t, on, s, counts, among). (t, on, (s, counts, among)))
      (on_date (in_counted (λ s. among_weekdays rule.weekdays s n)) n)

  pub of_months : (n : ℤ) → Dec (IsOfMonths c rule n)
  of_months n = on_date (λ t. truth (has_month rule.months (month_at c t.year t.month))) n

  pub of_month_days : (n : ℤ) → Dec (IsOfMonthDays c rule n)
  of_month_days n =
      like (λ (t, on, (d, has, names)). (t, on, d, has, names)) (λ (t, on, d, has, names). (t, on, (d, has, names)))
      (on_date (λ t. some_place rule.month_days (λ d. names_day Omit (month_stretch c (t.year, t.month)) d n)) n)

  pub kept_day : (n : ℤ) → Dec (IsKeptDay c rule n)
  kept_day n =
      like (λ p. record { month = p.0; month_day = p.1; weekday = p.2 }) (λ k. (k.month, k.month_day, k.weekday))
      (three (implied (denied (lacks_months rule)) (of_months n)) (implied (denied (lacks_month_days rule)) (of_month_days n))
      (implied (denied (lacks_weekdays rule)) (of_weekdays n)))
