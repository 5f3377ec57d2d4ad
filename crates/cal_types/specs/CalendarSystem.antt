-- What a calendar is to its callers: its list, and how it names its years and shows its months.
-- Source: the eras and month codes of CLDR (UTS 35).
use Rattle.std.specs.Prelude.{Bool, ℕ, ℤ}
use Rattle.cal_types.specs.Month.{MonthParts}
use Rattle.cal_types.specs.MonthInfo.{MonthInfoParts, month_info}
use Rattle.cal_types.specs.declared.month_info.LeapStatus.{LeapStatus}
use Rattle.cal_types.specs.declared.year.YearInfo.{YearInfo}
use Rattle.cal_types.specs.Bag.{Bag}
use Rattle.cal_types.specs.declared.options.DateFromFieldsOptions.{DateFromFieldsOptions}
use Rattle.cal_types.specs.CalendarList.{CalendarList, Date, month_at}
use Rattle.cal_types.specs.YearNames.{YearNames}
use Rattle.cal_types.specs.Resolving.{Resolved, resolve, overflow_of, missing_fields_of}

-- the list of years; how years are named otherwise; which are leap years; for a date, the year of its era or cycle;
-- for a place of a year, how its month stands to leap months, and the month by which it is formatted;
-- and what is added to a year where adding tests its limit,
-- since a calendar that counts another one's years tests it in those
pub record CalendarSystem : Type 0 where
  pub list : CalendarList
  pub year_names : YearNames
  pub is_leap_year : ℤ → Bool
  pub year_info : Date → YearInfo
  pub leap_status : ℤ → ℕ → LeapStatus
  pub formatted_month : ℤ → ℕ → MonthParts
  pub year_shift : ℤ

-- what a date says of its month
abbrev pub month_info_of : CalendarSystem → Date → MonthInfoParts
month_info_of s t =
    month_info t.month (month_at s.list t.year t.month) (s.leap_status t.year t.month)
    (s.formatted_month t.year t.month)

-- what fields resolve to in a calendar, by the options that are given
abbrev pub resolve_fields : CalendarSystem → Bag → DateFromFieldsOptions → Resolved Date
resolve_fields s bag options =
    resolve s.list s.year_names bag (overflow_of options.overflow) (missing_fields_of options.missing_fields_strategy)
