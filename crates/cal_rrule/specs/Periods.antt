-- The days of a rule's periods.
-- Source: RFC 5545, 3.3.10; RFC 7529, 4.1. What a rule doesn't say comes from its start.
use Rattle.std.specs.Prelude.{◌≡◌, ℕ, ◌*◌, ◌⊎◌, Bool, false, IsTrue, ℤ, pos, ◌+ℤ◌, ◌≤ℤ◌, ◌<ℤ◌}
use Rattle.cal_days.specs.Division.{floor_mod}
use Rattle.cal_types.specs.CalendarList.{CalendarList, Date, HasPlace, IsMonthsAfter, IsOn, day_number, month_at}
use Rattle.cal_types.specs.Month.{MonthParts}
use Rattle.cal_rule.specs.Sets.{has_month, has_place, has_weekday}
use Rattle.cal_rule.specs.declared.frequency.Frequency.{Frequency}
use Rattle.cal_rule.specs.declared.frequency.Frequency.TheVariants.{Yearly, Monthly, Weekly, Daily}
use Rattle.cal_rule.specs.declared.place_set.Place.{Place}
use Rattle.cal_rule.specs.declared.place_set.Place.TheVariants.{FromFront}
use Rattle.cal_rule.specs.declared.rule.RecurrenceRule.{RecurrenceRule}
use Rattle.cal_rule.specs.declared.skip.Skip.TheVariants.{Omit}
use Rattle.cal_rrule.specs.Stretches.{InStretch, NamesDay, NamesMonth, Stretch, month_stretch, year_stretch}
use Rattle.cal_rrule.specs.Weeks.{BelongsTo, IsAmongWeekdays, IsWeekNumber, IsWeekOf, weeks_behind}

-- a part is missing: its set is empty
abbrev pub IsMissing : {S V : Type 0} → (S → V → Bool) → S → Type 0
IsMissing {V = V} has set = (v : V) → has set v ≡ false

-- one thing if a part is there, and another if it is missing
abbrev pub Given : Type 0 → Type 0 → Type 0 → Type 0
Given missing there otherwise = (¬ missing → there) × (missing → otherwise)

-- the parts that are missing
abbrev pub NoMonths : RecurrenceRule → Type 0
NoMonths rule = IsMissing has_month rule.months

abbrev pub NoMonthDays : RecurrenceRule → Type 0
NoMonthDays rule = IsMissing has_place rule.month_days

abbrev pub NoYearDays : RecurrenceRule → Type 0
NoYearDays rule = IsMissing has_place rule.year_days

abbrev pub NoWeeks : RecurrenceRule → Type 0
NoWeeks rule = IsMissing has_place rule.weeks

abbrev pub NoWeekdays : RecurrenceRule → Type 0
NoWeekdays rule = IsMissing has_weekday rule.weekdays

-- no part names days of a year
abbrev pub NoDays : RecurrenceRule → Type 0
NoDays rule = NoWeeks rule × NoYearDays rule × NoMonthDays rule × NoWeekdays rule

-- the stretch in which weekdays are counted: the month under MONTHLY or beside BYMONTH, and otherwise the year
abbrev pub CountsIn : CalendarList → RecurrenceRule → Date → Stretch → Type 0
CountsIn c rule t s =
    Given ((rule.frequency ≡ Yearly) × NoMonths rule) (s ≡ month_stretch c (t.year, t.month))
    (s ≡ year_stretch c t.year)

-- BYDAY holds of a day
abbrev pub IsOfWeekdays : CalendarList → RecurrenceRule → ℤ → Type 0
IsOfWeekdays c rule n =
    (t : Date) × IsOn c n t × (s : Stretch) × CountsIn c rule t s × IsAmongWeekdays rule.weekdays s n

-- the month of a day is one of BYMONTH
abbrev pub IsOfMonths : CalendarList → RecurrenceRule → ℤ → Type 0
IsOfMonths c rule n = (t : Date) × IsOn c n t × IsTrue (has_month rule.months (month_at c t.year t.month))

-- the day of a day's month, from either end of it, is one of BYMONTHDAY
abbrev pub IsOfMonthDays : CalendarList → RecurrenceRule → ℤ → Type 0
IsOfMonthDays c rule n =
    (t : Date) × IsOn c n t × (d : Place)
    × IsTrue (has_place rule.month_days d) × NamesDay Omit (month_stretch c (t.year, t.month)) d n

-- a month that a rule names in a year: one of BYMONTH, or the start's month where no part says anything
abbrev pub SaysMonth : CalendarList → RecurrenceRule → Date → MonthParts → Type 0
SaysMonth c rule t m =
    IsTrue (has_month rule.months m) ⊎ (NoDays rule × NoMonths rule × (m ≡ month_at c t.year t.month))

-- a day of a month that a rule names: one of BYMONTHDAY, or the start's day where no part names days
abbrev pub SaysMonthDay : RecurrenceRule → Date → Place → Type 0
SaysMonthDay rule t d = IsTrue (has_place rule.month_days d) ⊎ (NoDays rule × (d ≡ FromFront t.day))

-- a month is one that a rule names in a year: all of the year's months where it names none
abbrev pub IsYearMonth : CalendarList → RecurrenceRule → Date → ℤ → ℤ × ℕ → Type 0
IsYearMonth c rule t y found =
    Given (NoMonths rule × ¬ (NoDays rule))
    ((m : MonthParts) × SaysMonth c rule t m × NamesMonth rule.skip c y m found)
    ((found.0 ≡ y) × HasPlace c y found.1)

-- a day is in a month of a year that a rule names, and is a day of the month that the rule names, where it names any;
-- beside BYYEARDAY alone nothing is asked, so that SKIP may lead out of the year
abbrev pub IsYearMonthDay : CalendarList → RecurrenceRule → Date → ℤ → ℤ → Type 0
IsYearMonthDay c rule t y n =
    Given (NoMonthDays rule × ¬ (NoDays rule))
    ((found : ℤ × ℕ) × IsYearMonth c rule t y found
    × (d : Place) × SaysMonthDay rule t d × NamesDay rule.skip (month_stretch c found) d n)
    (¬ (NoMonths rule × ¬ (NoYearDays rule)) →
    (found : ℤ × ℕ) × IsYearMonth c rule t y found × InStretch (month_stretch c found) n)

-- a day is named by BYYEARDAY in a year
abbrev pub IsYearDay : CalendarList → RecurrenceRule → ℤ → ℤ → Type 0
IsYearDay c rule y n =
    (d : Place) × IsTrue (has_place rule.year_days d) × NamesDay rule.skip (year_stretch c y) d n

-- a day that a year names, where the start is on a date
pub record IsNamedInYear (c : CalendarList) (rule : RecurrenceRule) (t : Date) (y : ℤ) (n : ℤ) : Type 0 where
  pub month_day : IsYearMonthDay c rule t y n
  pub year_day : ¬ (NoYearDays rule) → IsYearDay c rule y n
  pub weekday : ¬ (NoWeekdays rule) → IsOfWeekdays c rule n

-- a day whose week is one of BYWEEKNO in a year; where no part names days, the start's weekday
pub record IsNamedInWeeks (c : CalendarList) (rule : RecurrenceRule) (t : Date) (y : ℤ) (n : ℤ) : Type 0 where
  pub week : (w : ℤ) × IsWeekOf rule.week_start n w
      × (k : Place) × IsTrue (has_place rule.weeks k) × IsWeekNumber c y w k
  pub named : (z : ℤ) × IsNamedInYear c rule t z n
  pub weekday : NoYearDays rule → NoMonthDays rule → NoWeekdays rule →
      floor_mod n 7 ≡ floor_mod (day_number c t) 7

-- a day that a month names
pub record IsNamedInMonth (c : CalendarList) (rule : RecurrenceRule) (t : Date) (found : ℤ × ℕ) (n : ℤ) : Type 0 where
  pub month : ¬ (NoMonths rule) → IsTrue (has_month rule.months (month_at c found.0 found.1))
  pub month_day : ¬ (NoMonthDays rule) →
      (d : Place) × IsTrue (has_place rule.month_days d) × NamesDay rule.skip (month_stretch c found) d n
  pub weekday : ¬ (NoWeekdays rule) → IsOfWeekdays c rule n
  pub within : NoMonthDays rule → ¬ (NoWeekdays rule) → InStretch (month_stretch c found) n
  pub start_day : NoMonthDays rule → NoWeekdays rule →
      NamesDay rule.skip (month_stretch c found) (FromFront t.day) n

-- a day that a week names, by the week's first day
pub record IsNamedInWeek (c : CalendarList) (rule : RecurrenceRule) (t : Date) (w : ℤ) (n : ℤ) : Type 0 where
  pub within : (w ≤ℤ n) × (n <ℤ (w +ℤ pos 7))
  pub month : ¬ (NoMonths rule) → IsOfMonths c rule n
  pub weekday : Given (NoWeekdays rule) (IsOfWeekdays c rule n) (floor_mod n 7 ≡ floor_mod (day_number c t) 7)

-- a day that DAILY keeps
pub record IsKeptDay (c : CalendarList) (rule : RecurrenceRule) (n : ℤ) : Type 0 where
  pub month : ¬ (NoMonths rule) → IsOfMonths c rule n
  pub month_day : ¬ (NoMonthDays rule) → IsOfMonthDays c rule n
  pub weekday : ¬ (NoWeekdays rule) → IsOfWeekdays c rule n

-- a day of the year that so many years lie before or behind the start's: by weeks where there is BYWEEKNO
abbrev pub IsOfYears : CalendarList → RecurrenceRule → Date → ℕ → ℤ → Type 0
IsOfYears c rule t years n =
    Given (NoWeeks rule)
    ((y w : ℤ) × IsWeekOf rule.week_start (day_number c t) w × BelongsTo c y w
    × IsNamedInWeeks c rule t (y +ℤ pos years) n)
    (IsNamedInYear c rule t (t.year +ℤ pos years) n)

-- a day of the period that so many periods of a length lie behind the start's
abbrev pub IsOfPeriods : Frequency → CalendarList → RecurrenceRule → Date → ℕ → ℤ → Type 0
IsOfPeriods Yearly c rule t count n = IsOfYears c rule t count n
IsOfPeriods Monthly c rule t count n =
    (found : ℤ × ℕ) × IsMonthsAfter c t.year t.month (pos count) found.0 found.1 × IsNamedInMonth c rule t found n
IsOfPeriods Weekly c rule t count n =
    (w : ℤ) × IsWeekOf rule.week_start (day_number c t) w × IsNamedInWeek c rule t (weeks_behind w count) n
IsOfPeriods Daily c rule t count n = (n ≡ day_number c t +ℤ pos count) × IsKeptDay c rule n

-- a day of period k of a rule that starts on a date, before BYSETPOS
abbrev pub IsOfPeriod : CalendarList → RecurrenceRule → Date → ℕ → ℤ → Type 0
IsOfPeriod c rule t k n = IsOfPeriods rule.frequency c rule t (k * rule.interval) n
