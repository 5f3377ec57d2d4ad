-- The codes of causes.
use Rattle.std.specs.Prelude.{ℕ}
use Rattle.cal_errors.specs.declared.errors.DateFromFieldsError.{DateFromFieldsError}
use Rattle.cal_errors.specs.declared.errors.DateFromFieldsError.TheVariants.{NotEnoughFields, TooManyFields, Overflow, InvalidEra, InconsistentYear, MonthCodeInvalidSyntax, MonthNotInCalendar, MonthNotInYear, InconsistentMonth, InvalidOrdinalMonth, InvalidDay}
use Rattle.cal_errors.specs.declared.errors.DateAddError.{DateAddError}
use Rattle.cal_errors.specs.declared.errors.DateAddError.TheVariants as add
use Rattle.date_calls.specs.declared.outcomes.CalendarOutcome.{CalendarOutcome}

-- the code of a cause, and the greatest number that would do where the cause has one, 0 otherwise
abbrev pub why : ℕ → ℕ → CalendarOutcome
why code max = record { code = code; max = max }

-- why fields name no date
abbrev pub fields_fault : DateFromFieldsError → CalendarOutcome
fields_fault NotEnoughFields = why 10 0
fields_fault TooManyFields = why 11 0
fields_fault Overflow = why 12 0
fields_fault InvalidEra = why 13 0
fields_fault InconsistentYear = why 14 0
fields_fault MonthCodeInvalidSyntax = why 15 0
fields_fault MonthNotInCalendar = why 16 0
fields_fault MonthNotInYear = why 17 0
fields_fault InconsistentMonth = why 18 0
fields_fault (InvalidOrdinalMonth max) = why 19 max
fields_fault (InvalidDay max) = why 20 max

-- why a duration can't be added
abbrev pub sum_fault : DateAddError → CalendarOutcome
sum_fault add.Overflow = why 12 0
sum_fault add.MonthNotInYear = why 17 0
sum_fault (add.InvalidDay max) = why 20 max
