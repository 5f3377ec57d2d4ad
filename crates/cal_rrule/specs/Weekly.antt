-- The days that WEEKLY names and keeps.
use Rattle.std.specs.Prelude.{◌≡◌, false, Some, ℕ, ◌<◌, ◌*◌, ◌+◌, ◌↔◌, IsTrue, MatchOption, Option, ℤ, pos, ◌+ℤ◌, ◌≤ℤ◌, ◌<ℤ◌}
use Rattle.cal_days.specs.Division.{floor_mod}
use Rattle.cal_types.specs.CalendarList.{CalendarList, Date}
use Rattle.cal_types.specs.declared.weekday.Weekday.{Weekday}
use Rattle.cal_rule.specs.Sets.{has_weekday}
use Rattle.cal_rule.specs.declared.place_set.Place.{Place}
use Rattle.cal_rule.specs.declared.rule.RecurrenceRule.{RecurrenceRule}
use Rattle.cal_rule.specs.declared.weekday_places.WeekdayPlaces.{WeekdayPlaces}
use Rattle.cal_rrule.specs.Blocks.{weekly_periods}
use Rattle.cal_rrule.specs.Periods.{Given, IsOfMonths, IsOfPeriod, IsOfWeekdays, NoMonths, NoWeekdays}
use Rattle.cal_rrule.specs.Weeks.{weeks_behind}
use Rattle.recurrence_sets.specs.PeriodBits.{has_day}
use Rattle.recurrence_sets.specs.declared.period_days.PeriodDays.{PeriodDays}

-- no weekday of a set has an ordinal
abbrev pub IsPlain : WeekdayPlaces → Type 0
IsPlain set = (day : Weekday) (place : Place) → has_weekday set (record { day = day; ordinal = Some place }) ≡ false

-- a day of a weekday that WEEKLY names, in whatever week it is: one of BYDAY, or the start's
abbrev pub IsWeeklyWeekday : CalendarList → RecurrenceRule → ℤ → ℤ → Type 0
IsWeeklyWeekday c rule start n =
    Given (NoWeekdays rule) (IsOfWeekdays c rule n) (floor_mod n 7 ≡ floor_mod start 7)

-- a day that WEEKLY names, in whatever week it is
pub record IsWeeklyDay (c : CalendarList) (rule : RecurrenceRule) (start n : ℤ) : Type 0 where
  pub month : ¬ (NoMonths rule) → IsOfMonths c rule n
  pub weekday : IsWeeklyWeekday c rule start n

-- a day of a set is in the week that begins on another
abbrev pub IsInWeek : PeriodDays → ℤ → ℤ → Type 0
IsInWeek days w n = (w ≤ℤ n) × (n <ℤ (w +ℤ pos 7)) × IsTrue (has_day days n)

-- the days of a set in a week are those of a period
abbrev pub IsPeriodWeek : CalendarList → RecurrenceRule → Date → ℕ → PeriodDays → ℤ → Type 0
IsPeriodWeek c rule t k days w = (n : ℤ) → IsInWeek days w n ↔ IsOfPeriod c rule t k n

-- the week that so many periods of WEEKLY lie behind a day
abbrev pub week_from : ℤ → ℕ → ℕ → ℤ
week_from first interval j = first +ℤ pos (7 * (j * interval))

-- so many weeks of a set, which begin INTERVAL weeks apart on the set's first day, are periods in a row
abbrev pub ArePeriodWeeks : CalendarList → RecurrenceRule → Date → ℕ → PeriodDays → ℕ → Type 0
ArePeriodWeeks c rule t base days count =
    (j : ℕ) → j < count → IsPeriodWeek c rule t (base + j) days (week_from days.first rule.interval j)

-- the first day of a block's first week, where the start's week begins on a day
abbrev pub block_start : ℤ → ℕ → ℕ → ℤ
block_start w interval block = weeks_behind w (block * weekly_periods interval * interval)

-- what was found are the days behind the start's week on which a block begins, or these are too many
abbrev pub AreDaysAhead : ℕ → ℕ → Option ℤ → Type 0
AreDaysAhead interval block found =
    MatchOption found (770000000 < 7 * (block * weekly_periods interval * interval))
    (λ days. (days ≡ pos (7 * (block * weekly_periods interval * interval)))
    × (7 * (block * weekly_periods interval * interval) < 800000000) × (block < 200000000))

-- what was found is the day on which a block begins, or that is behind a last day
abbrev pub IsBlockStart : ℤ → ℕ → ℕ → ℤ → Option ℤ → Type 0
IsBlockStart w interval block last found =
    MatchOption found (last <ℤ block_start w interval block)
    (λ from. (from ≡ block_start w interval block) × (from ≤ℤ last) × (block < 200000000))
