-- What contracts see of a month.
use Rattle.std.specs.Prelude.{Result, Ok, Err}
use Rattle.cal_types.specs.Month.{MonthParts}
use Rattle.cal_types.specs.declared.month.Month.{Month}
use Rattle.cal_errors.specs.declared.errors.MonthCodeParseError.{MonthCodeParseError}

-- its number, and whether it is a leap month
abbrev pub month_parts : Month → MonthParts
month_parts m = record { number = m.number; is_leap = m.is_leap }

-- the same of a month that was read
abbrev pub parts_read : Result Month MonthCodeParseError → Result MonthParts MonthCodeParseError
parts_read (Ok m) = Ok (month_parts m)
parts_read (Err e) = Err e
