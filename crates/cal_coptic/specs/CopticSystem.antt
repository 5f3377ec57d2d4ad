-- The Coptic calendar: the Coptic list in the Era of the Martyrs.
use Rattle.std.specs.Prelude.{Bool}
use Rattle.cal_types.specs.declared.month_info.LeapStatus.TheVariants.{Normal}
use Rattle.cal_types.specs.declared.year.YearInfo.TheVariants.{Era}
use Rattle.cal_days.specs.Coptic.{coptic_leap}
use Rattle.cal_types.specs.CalendarList.{Date, is_valid_date}
use Rattle.cal_types.specs.CalendarSystem.{CalendarSystem}
use Rattle.cal_base.specs.OwnYears.{own_system}
use Rattle.cal_base.specs.KeptDates.{kept_date}
use Rattle.cal_coptic.specs.CopticEra.{coptic_era_year}
use Rattle.cal_coptic.specs.CopticNames.{coptic_names}
use Rattle.cal_coptic.specs.CopticList.{coptic_list, coptic_years}
use Rattle.cal_coptic.specs.declared.coptic.CopticDateInner.{CopticDateInner}

-- no month is a leap month
abbrev pub coptic_system : CalendarSystem
coptic_system =
    own_system coptic_years coptic_names coptic_leap (λ y. Era (coptic_era_year y)) (λ _ _. Normal) (λ _ _ month. month)

-- the date that an inner date stands for
abbrev pub coptic_date : CopticDateInner → Date
coptic_date d = kept_date d.0.parts

-- it is a date of the list, and its day number is in the valid range
abbrev pub coptic_belongs : CopticDateInner → Bool
coptic_belongs d = is_valid_date coptic_list (coptic_date d)
