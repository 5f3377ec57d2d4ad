-- What the program's names of years and months say.
use Rattle.std.specs.Prelude.{ℤ, Option, Some, None, Result, Ok, Err}
use Rattle.cal_types.specs.MonthParts.{month_parts}
use Rattle.cal_errors.specs.declared.errors.UnknownEraError.{UnknownEraError}
use Rattle.cal_types.specs.Resolving.{MonthName, ByMonth, ByCode, ByOrdinal, YearAndMonth, year_and_month}
use Rattle.cal_arith.specs.Given.{CalendarYears}
use Rattle.cal_arith.specs.declared.month_names.NamedMonth.{NamedMonth}
use Rattle.cal_arith.specs.declared.month_names.NamedMonth.TheVariants as named
use Rattle.cal_arith.specs.declared.month_names.MonthOfYear.{MonthOfYear}

-- how a month is named
abbrev pub month_name : NamedMonth → MonthName
month_name (named.Month m) = ByMonth (month_parts m)
month_name (named.Code code) = ByCode code.now
month_name (named.Ordinal i) = ByOrdinal i

-- an extended year, and the month that is named in it
abbrev pub month_of_year : {Y : Type 0} → CalendarYears Y → MonthOfYear Y → YearAndMonth
month_of_year years there = year_and_month (years.extended there.year) (month_name there.month)

-- a call's answer, which is seen by a view
abbrev pub seen : {A B E : Type 0} → (A → B) → Result A E → Result B E
seen view (Ok a) = Ok (view a)
seen view (Err e) = Err e

-- what an era's code and a year in that era read as, or that the calendar doesn't have the era
abbrev pub era_read : Option ℤ → Result ℤ UnknownEraError
era_read None = Err (record {})
era_read (Some y) = Ok y
