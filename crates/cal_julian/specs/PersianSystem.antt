-- The Persian calendar with its corrected years: the Persian list with the era `ap`.
use Rattle.std.specs.Prelude.{Bool, List, ℤ}
use Rattle.cal_types.specs.declared.month_info.LeapStatus.TheVariants.{Normal}
use Rattle.cal_types.specs.declared.year.YearInfo.TheVariants.{Era}
use Rattle.cal_types.specs.CalendarList.{Date, is_valid_date}
use Rattle.cal_types.specs.CalendarSystem.{CalendarSystem}
use Rattle.cal_base.specs.OwnYears.{own_system}
use Rattle.cal_base.specs.KeptDates.{kept_date}
use Rattle.cal_julian.specs.PersianNames.{persian_era_year, persian_names}
use Rattle.cal_julian.specs.PersianList.{persian_list, persian_years}
use Rattle.cal_julian.specs.PersianRule.{is_persian_leap}
use Rattle.cal_julian.specs.PersianCorrected.{corrected_years}
use Rattle.cal_julian.specs.declared.persian.Persian.{Persian}
use Rattle.cal_julian.specs.declared.persian.PersianDateInner.{PersianDateInner}

-- by its corrected years; no month is a leap month
abbrev pub corrected_system : List ℤ → CalendarSystem
corrected_system years =
    own_system (persian_years years) persian_names (is_persian_leap years) (λ y. Era (persian_era_year y))
    (λ _ _. Normal) (λ _ _ month. month)

abbrev pub persian_system : Persian → CalendarSystem
persian_system s = corrected_system (corrected_years s)

-- the date that an inner date stands for
abbrev pub persian_date : PersianDateInner → Date
persian_date d = kept_date d.0.parts

-- it is a date of the list, and its day number is in the valid range
abbrev pub persian_belongs : Persian → PersianDateInner → Bool
persian_belongs s d = is_valid_date (persian_list (corrected_years s)) (persian_date d)
