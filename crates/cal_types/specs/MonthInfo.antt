-- What a date says of its month.
-- Source: the month codes of ECMAScript Temporal; the month that a formatter shows is that of CLDR (UTS 35).
use Rattle.std.specs.Prelude.{ℕ, List}
use Rattle.cal_types.specs.Month.{MonthParts, code_text}
use Rattle.cal_types.specs.declared.month_info.LeapStatus.{LeapStatus}

-- what a date says of its month
pub record MonthInfoParts : Type 0 where
  pub ordinal : ℕ
  pub standard_code : List ℕ
  pub formatting_code : List ℕ
  pub month : MonthParts
  pub leap_status : LeapStatus

-- a month at its place, with its own code and the code that shows it
abbrev pub month_info : ℕ → MonthParts → LeapStatus → MonthParts → MonthInfoParts
month_info place month status shown = record {
  ordinal = place;
  standard_code = code_text month;
  formatting_code = code_text shown;
  month = month;
  leap_status = status;
}
