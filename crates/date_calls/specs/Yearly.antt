-- What is answered about anniversaries.
use Rattle.std.specs.Prelude.{ℕ, ℤ, List, Option, Some, None}
use Rattle.std.specs.Option.{option_map}
use Rattle.cal_anniversary.specs.Asking.{anniversary_fault}
use Rattle.cal_anniversary.specs.declared.errors.AnniversaryError.{AnniversaryError}
use Rattle.cal_anniversary.specs.declared.errors.AnniversaryError.TheVariants.{MonthNotInCalendar, InvalidDay}
use Rattle.cal_types.specs.Anniversary.{anniversaries_between}
use Rattle.cal_types.specs.CalendarList.{CalendarList}
use Rattle.cal_types.specs.CalendarSystem.{CalendarSystem}
use Rattle.cal_types.specs.Month.{MonthParts}
use Rattle.cal_types.specs.declared.leaping.Leaping.{Leaping}
use Rattle.cal_types.specs.declared.leaping.Leaping.TheVariants as leaping
use Rattle.cal_types.specs.declared.options.Overflow.{Overflow}
use Rattle.cal_types.specs.declared.options.Overflow.TheVariants as overflow
use Rattle.date_calls.specs.Lists.{IsUnlisted, ListsIn}

-- a year that lacks the month or the day is skipped, unless it is asked for the nearest date
abbrev pub leaping_for : Option Overflow → Leaping
leaping_for None = leaping.Exact
leaping_for (Some overflow.Reject) = leaping.Exact
leaping_for (Some overflow.Constrain) = leaping.Constrain

-- the code of a fault
abbrev pub anniversary_code : AnniversaryError → ℕ
anniversary_code MonthNotInCalendar = 16
anniversary_code InvalidDay = 20

-- why there are no anniversaries of a month and a day
abbrev pub yearly_fault : CalendarList → MonthParts → ℕ → Option ℕ
yearly_fault c m d = option_map anniversary_code (anniversary_fault c m d)

-- the anniversaries of a month and a day from one day to another, if there is such an option
abbrev pub ListsYearly : CalendarSystem → Option (Option Overflow) → MonthParts → ℕ → ℤ → ℤ → ℕ → List ℤ → List ℤ
    → ℕ → ℤ → ℤ → Type 0
ListsYearly s (Some overflow) m d first last code before now written next_before next =
    ListsIn (yearly_fault s.list m d) (anniversaries_between s.list (leaping_for overflow) m d) first last code before
    now written next_before next
ListsYearly s None m d first last code before now written next_before next =
    IsUnlisted 3 code before now written next_before next
