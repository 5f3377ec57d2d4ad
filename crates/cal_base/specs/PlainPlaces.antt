-- The place of a month in a year of plain months.
use Rattle.std.proofs.Common.{ℕ, Result, Ok, Err, if◌then◌else◌}
use Rattle.cal_types.specs.Month.{MonthParts}
use Rattle.cal_errors.specs.declared.errors.MonthError.{MonthError}
use Rattle.cal_errors.specs.declared.errors.MonthError.TheVariants.{NotInCalendar}
use Rattle.cal_types.specs.PlainMonths.{is_plain_month}

-- its number where it is one of the plain months 1 to n; the calendar does not know another
abbrev pub plain_place : ℕ → MonthParts → Result ℕ MonthError
plain_place n m = if is_plain_month n m then Ok m.number else Err NotInCalendar
