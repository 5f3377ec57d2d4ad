-- The periods of a rule as they are listed: in blocks.
use Rattle.std.specs.Prelude.{ℕ, ◌+◌, ◌*◌, ◌/◌, ◌<◌, ◌≤◌, nat_lt, if◌then◌else◌, ℤ, pos, ◌<ℤ◌}
use Rattle.cal_days.specs.Day.{IsValidDay}
use Rattle.cal_types.specs.CalendarList.{CalendarList, Date, IsMonthsAfter, date}
use Rattle.cal_rule.specs.declared.frequency.Frequency.{Frequency}
use Rattle.cal_rule.specs.declared.frequency.Frequency.TheVariants.{Yearly, Monthly, Weekly, Daily}
use Rattle.cal_rule.specs.declared.rule.RecurrenceRule.{RecurrenceRule}
use Rattle.cal_rrule.specs.Occurrences.{IsKept}
use Rattle.cal_rrule.specs.Stretches.{InStretch, month_stretch}
use Rattle.cal_rrule.specs.declared.asked.Asked.{Asked}

-- the start's date
abbrev pub start_of : Asked → Date
start_of asked = date asked.month.year asked.month.place asked.day_of_month

-- how many periods of WEEKLY are a block: so many that their weeks are among 63 weeks in a row, or one
abbrev pub weekly_periods : ℕ → ℕ
weekly_periods interval = if nat_lt 63 interval then 1 else 63 / interval

-- a day is kept of one of so many periods in a row
abbrev pub IsOfPeriodsFrom : CalendarList → RecurrenceRule → Date → ℕ → ℕ → ℤ → Type 0
IsOfPeriodsFrom c rule t period count n = (j : ℕ) × (j < count) × IsKept c rule t (period + j) n

-- a day is kept of a period of a block, by the rule's frequency: under DAILY a block are the periods of a month
abbrev pub IsOfBlocks : Frequency → CalendarList → RecurrenceRule → Date → ℕ → ℤ → Type 0
IsOfBlocks Yearly c rule t block n = IsKept c rule t block n
IsOfBlocks Monthly c rule t block n = IsKept c rule t block n
IsOfBlocks Weekly c rule t block n =
    IsOfPeriodsFrom c rule t (block * weekly_periods rule.interval) (weekly_periods rule.interval) n
IsOfBlocks Daily c rule t block n =
    (found : ℤ × ℕ) × IsMonthsAfter c t.year t.month (pos block) found.0 found.1
    × InStretch (month_stretch c found) n × (k : ℕ) × IsKept c rule t k n

-- a day is kept of a period of a block
abbrev pub IsOfBlock : CalendarList → RecurrenceRule → Date → ℕ → ℤ → Type 0
IsOfBlock c rule t block n = IsOfBlocks rule.frequency c rule t block n

-- the valid days of blocks that aren't next to each other are in order
abbrev pub AreApart : CalendarList → RecurrenceRule → Date → Type 0
AreApart c rule t =
    (i j : ℕ) (m n : ℤ) → i + 2 ≤ j → IsValidDay m → IsValidDay n →
    IsOfBlock c rule t i m → IsOfBlock c rule t j n → m <ℤ n
