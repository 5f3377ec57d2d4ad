-- Months of a calendar as they are looked at, and what is known of a rule and its start.
use Rattle.std.specs.Prelude.{◌≡◌, ◌↔◌, Option, MatchOption, ◌⊎◌, ◌*◌, IsTrue, ℕ, ℤ, pos, ◌-ℤ◌, ◌+ℤ◌, ◌≤ℤ◌, ◌<ℤ◌}
use Rattle.cal_days.specs.Day.{IsValidDay}
use Rattle.cal_types.specs.CalendarList.{CalendarList, HasPlace, IsMonthsAfter, date, day_number, month_at, month_length, start_of_year, year_length}
use Rattle.cal_types.specs.Month.{MonthParts}
use Rattle.cal_types.specs.MonthParts.{month_parts}
use Rattle.cal_rule.specs.declared.frequency.Frequency.TheVariants.{Yearly}
use Rattle.cal_rule.specs.Sets.{has_month, has_place}
use Rattle.cal_rule.specs.declared.place_set.Place.TheVariants.{FromFront, FromBack}
use Rattle.cal_rule.specs.declared.rule.RecurrenceRule.{RecurrenceRule}
use Rattle.cal_rrule.specs.Masks.{IsNamedBy}
use Rattle.cal_rrule.specs.Periods.{Given, IsKeptDay, IsMissing, NoDays, NoMonthDays, NoMonths, NoWeekdays, NoWeeks, NoYearDays}
use Rattle.cal_rule.specs.declared.skip.Skip.{Skip}
use Rattle.cal_rule.specs.declared.skip.Skip.TheVariants.{Omit, Backward, Forward}
use Rattle.cal_rrule.specs.Stretches.{InStretch, NamesDay, Stretch, end_of}
use Rattle.cal_rrule.specs.declared.missing.Missing.{Missing}
use Rattle.cal_rrule.specs.declared.month_look.MonthLook.{MonthLook}
use Rattle.cal_rrule.specs.declared.year_look.YearLook.{YearLook}
use Rattle.cal_rule.specs.declared.place_set.Place.{Place}

-- what is said of a month is so in a calendar
pub record IsMonthLook (c : CalendarList) (look : MonthLook) : Type 0 where
  pub is_place : HasPlace c look.year look.place
  pub is_first : look.first ≡ day_number c (date look.year look.place 1)
  pub is_length : look.days ≡ month_length c look.year look.place
  pub is_month : month_parts look.month ≡ month_at c look.year look.place

-- its days
abbrev pub look_stretch : MonthLook → Stretch
look_stretch look = record { first = look.first; days = look.days }

-- the parts that a rule lacks
pub record AreMissing (rule : RecurrenceRule) (missing : Missing) : Type 0 where
  pub no_months : IsTrue missing.months ↔ NoMonths rule
  pub no_month_days : IsTrue missing.month_days ↔ NoMonthDays rule
  pub no_year_days : IsTrue missing.year_days ↔ NoYearDays rule
  pub no_weeks : IsTrue missing.weeks ↔ NoWeeks rule
  pub no_weekdays : IsTrue missing.weekdays ↔ NoWeekdays rule
  pub no_positions : IsTrue missing.positions ↔ IsMissing has_place rule.positions

-- the days that a rule names in a month, whatever their weekdays are: the start's day where it names none
abbrev pub IsNamedOfMonth : RecurrenceRule → ℕ → Stretch → ℤ → Type 0
IsNamedOfMonth rule day s n =
    (¬ (NoMonthDays rule) → IsNamedBy rule.month_days rule.skip s n)
    × (NoMonthDays rule → ¬ (NoWeekdays rule) → InStretch s n)
    × (NoMonthDays rule → NoWeekdays rule → NamesDay rule.skip s (FromFront day) n)

-- BYMONTH has a month, where it is there
abbrev pub KeepsMonth : RecurrenceRule → MonthParts → Type 0
KeepsMonth rule m = ¬ (NoMonths rule) → IsTrue (has_month rule.months m)

-- weekdays are counted in the month
abbrev pub CountsInMonths : RecurrenceRule → Type 0
CountsInMonths rule = ¬ ((rule.frequency ≡ Yearly) × NoMonths rule)

-- the days that a place may name in a stretch
abbrev pub Reaches : Skip → Stretch → ℤ → Type 0
Reaches Omit s n = InStretch s n
Reaches Backward s n = ((s.first -ℤ pos 1) ≤ℤ n) × (n <ℤ end_of s)
Reaches Forward s n = (s.first ≤ℤ n) × (n <ℤ (end_of s +ℤ pos 1))

-- the days that a rule names in a month, and BYMONTH keeps, whatever their weekdays are
abbrev pub IsKeptOfMonth : RecurrenceRule → MonthParts → ℕ → Stretch → ℤ → Type 0
IsKeptOfMonth rule m day s n = KeepsMonth rule m × IsNamedOfMonth rule day s n

-- BYSETPOS keeps a day that is alone, where it is there
abbrev pub KeepsSingle : RecurrenceRule → Type 0
KeepsSingle rule =
    ¬ (IsMissing has_place rule.positions) →
    IsTrue (has_place rule.positions (FromFront 1)) ⊎ IsTrue (has_place rule.positions (FromBack 1))

-- a day lies a multiple of some days behind a start
abbrev pub IsMultiple : ℤ → ℕ → ℤ → Type 0
IsMultiple start every n = (k : ℕ) × (n ≡ start +ℤ pos (k * every))

-- a day that DAILY keeps and BYSETPOS, too, where the start is a day
abbrev pub IsDailyDay : CalendarList → RecurrenceRule → ℤ → ℤ → Type 0
IsDailyDay c rule start n = IsMultiple start rule.interval n × IsKeptDay c rule n × KeepsSingle rule

-- what is said of a year is so in a calendar
pub record IsYearLook (c : CalendarList) (look : YearLook) : Type 0 where
  pub is_start : look.first ≡ start_of_year c look.year
  pub is_whole : look.days ≡ year_length c look.year

-- its days
abbrev pub look_year : YearLook → Stretch
look_year look = record { first = look.first; days = look.days }

-- weekdays are counted in the year
abbrev pub CountsInYears : RecurrenceRule → Type 0
CountsInYears rule = (rule.frequency ≡ Yearly) × NoMonths rule

-- a day of a month that a rule names in a year is one that the rule names in it, where the start's day of the month is
-- one
abbrev pub IsNamedInYearMonth : RecurrenceRule → ℕ → Stretch → ℤ → Type 0
IsNamedInYearMonth rule day s n =
    Given (NoMonthDays rule × ¬ (NoDays rule))
    ((d : Place) × (IsTrue (has_place rule.month_days d) ⊎ (NoDays rule × (d ≡ FromFront day)))
    × NamesDay rule.skip s d n)
    (InStretch s n)

-- what was found is the month so many months after a month, or the first day of that month isn't valid
abbrev pub IsMonthFound : CalendarList → MonthLook → ℕ → Option MonthLook → Type 0
IsMonthFound c look months found =
    MatchOption found
    ((z : ℤ) (j : ℕ) → IsMonthsAfter c look.year look.place (pos months) z j →
    ¬ (IsValidDay (day_number c (date z j 1))))
    (λ m. IsMonthLook c m × IsMonthsAfter c look.year look.place (pos months) m.year m.place)

-- what was found is the month so many months after a month, or that month has no valid day
abbrev pub IsMonthHeld : CalendarList → MonthLook → ℕ → Option MonthLook → Type 0
IsMonthHeld c look months found =
    MatchOption found
    ((z : ℤ) (j : ℕ) → IsMonthsAfter c look.year look.place (pos months) z j →
    (n : ℤ) → day_number c (date z j 1) ≤ℤ n → ¬ (IsValidDay n))
    (λ m. IsMonthLook c m × IsMonthsAfter c look.year look.place (pos months) m.year m.place)

-- what was found is the month so many months after a month, or neither a day of that month nor the day before it is
-- valid
abbrev pub IsMonthReached : CalendarList → MonthLook → ℕ → Option MonthLook → Type 0
IsMonthReached c look months found =
    MatchOption found
    ((z : ℤ) (j : ℕ) → IsMonthsAfter c look.year look.place (pos months) z j →
    (n : ℤ) → day_number c (date z j 1) ≤ℤ (n +ℤ pos 1) → ¬ (IsValidDay n))
    (λ m. IsMonthLook c m × IsMonthsAfter c look.year look.place (pos months) m.year m.place)
