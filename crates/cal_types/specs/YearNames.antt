-- How a calendar names years otherwise than by their extended years:
-- by eras, and by the month and the day of a date without a year.
-- Source: the era codes of CLDR (UTS 35), and the reference years of ECMAScript Temporal's
-- NonISOMonthDayToISOReferenceDate.
use Rattle.std.specs.Prelude.{ℕ, ℤ, Bool, nat_eq, List, Option, Some, Result, Ok, Err, if◌then◌else◌}
use Rattle.cal_types.specs.Month.{MonthParts}
use Rattle.cal_errors.specs.declared.errors.EcmaReferenceYearError.{EcmaReferenceYearError}
use Rattle.cal_errors.specs.declared.errors.EcmaReferenceYearError.TheVariants.{MonthNotInCalendar}
use lib.Pointwise.{pointwise}

-- the extended year that an era's code and a year in that era read as, where the calendar reads the code;
-- and the reference year of a month and a day, which may be above the month's length, or why there is none
pub record YearNames : Type 0 where
  pub reads : List ℕ → ℤ → Option ℤ
  pub reference : MonthParts → ℕ → Result ℤ EcmaReferenceYearError

-- whether a text is an era's code
abbrev pub is_code : List ℕ → List ℕ → Bool
is_code text code = pointwise nat_eq text code

-- a year that an era reads as, where the code is that era's; else what the eras behind it say
abbrev pub year_in_era : Bool → ℤ → Option ℤ → Option ℤ
year_in_era is_era y others = if is_era then Some y else others

-- the reference year of a month, where the calendar knows the month
abbrev pub reference_of_known : Bool → ℤ → Result ℤ EcmaReferenceYearError
reference_of_known is_known y = if is_known then Ok y else Err MonthNotInCalendar
