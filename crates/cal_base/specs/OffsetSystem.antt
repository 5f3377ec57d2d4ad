-- A calendar of Gregorian years that are counted from a year of their own, with its eras.
use Rattle.std.specs.Prelude.{ℕ, Bool, List, Option, ℤ, pos, ◌+ℤ◌, ◌-ℤ◌}
use Rattle.cal_types.specs.declared.month_info.LeapStatus.TheVariants.{Normal}
use Rattle.cal_types.specs.declared.year.EraYear.{EraYear}
use Rattle.cal_types.specs.declared.year.YearInfo.TheVariants.{Era}
use Rattle.cal_days.specs.Gregorian.{gregorian_leap}
use Rattle.cal_types.specs.CalendarList.{Date, date, month_at, is_valid_date}
use Rattle.cal_types.specs.CalendarSystem.{CalendarSystem}
use Rattle.cal_types.specs.PlainMonths.{is_plain_month}
use Rattle.cal_types.specs.YearNames.{YearNames, reference_of_known}
use Rattle.cal_arith.specs.declared.dates.Ymd.{Ymd}
use Rattle.cal_base.specs.declared.numbered_year.NumberedYear.{NumberedYear}
use Rattle.cal_base.specs.GregorianList.{gregorian_list}
use Rattle.cal_base.specs.OffsetList.{offset_list}
use Rattle.cal_base.specs.KeptDates.{kept_date}

-- each month has ISO year 1972 as its reference year
abbrev pub offset_names : ℤ → (List ℕ → ℤ → Option ℤ) → YearNames
offset_names offset reads =
    record { reads = reads; reference = λ m _. reference_of_known (is_plain_month 12 m) (pos 1972 -ℤ offset) }

-- no month is a leap month; adding tests its limit on the ISO year
abbrev pub offset_system : ℤ → (List ℕ → ℤ → Option ℤ) → (Date → EraYear) → CalendarSystem
offset_system offset reads era_year = record {
  list = offset_list offset;
  year_names = offset_names offset reads;
  is_leap_year = λ y. gregorian_leap (y +ℤ offset);
  year_info = λ t. Era (era_year t);
  leap_status = λ _ _. Normal;
  formatted_month = month_at (offset_list offset);
  year_shift = offset;
}

-- a date as it is kept, in extended years
abbrev pub offset_date : ℤ → Ymd NumberedYear → Date
offset_date offset d = date (d.year.number -ℤ offset) d.month d.day

-- it is a date of the ISO years, and its day number is in the valid range
abbrev pub kept_belongs : Ymd NumberedYear → Bool
kept_belongs d = is_valid_date gregorian_list (kept_date d)
