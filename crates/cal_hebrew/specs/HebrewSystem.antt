-- The Hebrew calendar: the Hebrew list with the era `am`, and what it says of its leap month.
use Rattle.std.specs.Prelude.{ℕ, ℤ, Bool, ◌&&◌, nat_eq}
use Rattle.cal_days.specs.Hebrew.{hebrew_leap, hebrew_year_length}
use Rattle.cal_types.specs.Month.{MonthParts}
use Rattle.cal_types.specs.declared.month_info.LeapStatus.{LeapStatus}
use Rattle.cal_types.specs.declared.year.YearInfo.TheVariants.{Era}
use Rattle.cal_types.specs.CalendarList.{Date, date, is_valid_date}
use Rattle.cal_types.specs.CalendarSystem.{CalendarSystem}
use Rattle.cal_base.specs.OwnYears.{own_system}
use Rattle.cal_hebrew.specs.HebrewEra.{hebrew_era_year}
use Rattle.cal_hebrew.specs.HebrewNames.{hebrew_names}
use Rattle.cal_hebrew.specs.HebrewList.{hebrew_list, hebrew_years}
use Rattle.cal_hebrew.specs.HebrewPlaces.{leap_status_of_place, formatted_month_of_place}
use Rattle.cal_hebrew.specs.declared.hebrew_year.HebrewYear.{HebrewYear}
use Rattle.cal_hebrew.specs.declared.hebrew.HebrewDateInner.{HebrewDateInner}

-- how the month in a place stands to leap months
abbrev pub hebrew_leap_status : ℤ → ℕ → LeapStatus
hebrew_leap_status y i = leap_status_of_place (hebrew_leap y) i

-- the month by which it is formatted
abbrev pub hebrew_formatted_month : ℤ → ℕ → MonthParts → MonthParts
hebrew_formatted_month y i month = formatted_month_of_place (hebrew_leap y) i month

abbrev pub hebrew_system : CalendarSystem
hebrew_system =
    own_system hebrew_years hebrew_names hebrew_leap
    (λ y. Era (hebrew_era_year y)) hebrew_leap_status hebrew_formatted_month

-- whether a year has as many days as the calendar's year of its number
abbrev pub has_hebrew_length : HebrewYear → Bool
has_hebrew_length y = nat_eq (hebrew_year_length y.extended_year) y.length

-- the date that an inner date stands for
abbrev pub hebrew_date : HebrewDateInner → Date
hebrew_date d = date d.0.parts.year.extended_year d.0.parts.month d.0.parts.day

-- its year is the calendar's, it is a date of the list, and its day number is in the valid range
abbrev pub hebrew_belongs : HebrewDateInner → Bool
hebrew_belongs d = has_hebrew_length d.0.parts.year && is_valid_date hebrew_list (hebrew_date d)
