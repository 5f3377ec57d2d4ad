-- The place of a month in a year, or why it has none.
use Rattle.std.specs.Prelude.{ℕ, ℤ, Result, Err, ok_or, if◌then◌else◌}
use Rattle.cal_types.specs.Month.{MonthParts}
use Rattle.cal_types.specs.declared.options.Overflow.{Overflow}
use Rattle.cal_errors.specs.declared.errors.MonthError.{MonthError}
use Rattle.cal_errors.specs.declared.errors.MonthError.TheVariants.{NotInCalendar, NotInYear}
use Rattle.cal_types.specs.CalendarList.{CalendarList, spot}

-- a month that the calendar does not know; else its spot, or that the year lacks it
abbrev pub ordinal_month : CalendarList → ℤ → MonthParts → Overflow → Result ℕ MonthError
ordinal_month c y m o = if c.is_of_kind m then ok_or (spot c y m o) NotInYear else Err NotInCalendar
