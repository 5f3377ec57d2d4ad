-- The Indian calendar: the Indian list in the Saka era.
use Rattle.std.specs.Prelude.{Bool}
use Rattle.cal_types.specs.declared.month_info.LeapStatus.TheVariants.{Normal}
use Rattle.cal_types.specs.declared.year.YearInfo.TheVariants.{Era}
use Rattle.cal_types.specs.CalendarList.{Date, is_valid_date}
use Rattle.cal_types.specs.CalendarSystem.{CalendarSystem}
use Rattle.cal_base.specs.OwnYears.{own_system}
use Rattle.cal_base.specs.KeptDates.{kept_date}
use Rattle.cal_julian.specs.IndianEra.{indian_era_year}
use Rattle.cal_julian.specs.IndianNames.{indian_names}
use Rattle.cal_julian.specs.IndianList.{indian_leap, indian_list, indian_years}
use Rattle.cal_julian.specs.declared.indian.IndianDateInner.{IndianDateInner}

-- no month is a leap month
abbrev pub indian_system : CalendarSystem
indian_system =
    own_system indian_years indian_names indian_leap (λ y. Era (indian_era_year y)) (λ _ _. Normal) (λ _ _ month. month)

-- the date that an inner date stands for
abbrev pub indian_date : IndianDateInner → Date
indian_date d = kept_date d.0.parts

-- it is a date of the list, and its day number is in the valid range
abbrev pub indian_belongs : IndianDateInner → Bool
indian_belongs d = is_valid_date indian_list (indian_date d)
