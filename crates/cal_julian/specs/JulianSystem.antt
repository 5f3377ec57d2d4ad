-- The Julian calendar: the Julian list with the eras `ce` and `bce`.
use Rattle.std.specs.Prelude.{Bool}
use Rattle.cal_types.specs.declared.month_info.LeapStatus.TheVariants.{Normal}
use Rattle.cal_types.specs.declared.year.YearInfo.TheVariants.{Era}
use Rattle.cal_days.specs.Julian.{julian_leap}
use Rattle.cal_types.specs.CalendarList.{Date, is_valid_date}
use Rattle.cal_types.specs.CalendarSystem.{CalendarSystem}
use Rattle.cal_base.specs.OwnYears.{own_system}
use Rattle.cal_base.specs.KeptDates.{kept_date}
use Rattle.cal_julian.specs.JulianEra.{julian_era_year}
use Rattle.cal_julian.specs.JulianNames.{julian_names}
use Rattle.cal_julian.specs.JulianList.{julian_list, julian_years}
use Rattle.cal_julian.specs.declared.julian.JulianDateInner.{JulianDateInner}

-- every fourth year is a leap year, and no month is a leap month
abbrev pub julian_system : CalendarSystem
julian_system =
    own_system julian_years julian_names julian_leap (λ y. Era (julian_era_year y)) (λ _ _. Normal) (λ _ _ month. month)

-- the date that an inner date stands for
abbrev pub julian_date : JulianDateInner → Date
julian_date d = kept_date d.0.parts

-- it is a date of the list, and its day number is in the valid range
abbrev pub julian_belongs : JulianDateInner → Bool
julian_belongs d = is_valid_date julian_list (julian_date d)
