-- A Hijri calendar: the list of its rules' years, with the eras `ah` and `bh`, and the rules' reference years.
use Rattle.std.specs.Prelude.{Bool, ◌&&◌, ◌==◌, ℕ, Result, ℤ}
use Rattle.cal_types.specs.Month.{MonthParts}
use Rattle.cal_errors.specs.declared.errors.EcmaReferenceYearError.{EcmaReferenceYearError}
use Rattle.cal_types.specs.declared.month_info.LeapStatus.TheVariants.{Normal}
use Rattle.cal_types.specs.declared.year.YearInfo.TheVariants.{Era}
use Rattle.cal_types.specs.CalendarList.{Date, date, year_length, is_valid_date}
use Rattle.cal_types.specs.CalendarSystem.{CalendarSystem}
use Rattle.cal_base.specs.OwnYears.{own_system}
use Rattle.cal_hijri.specs.HijriList.{hijri_list, hijri_years, has_parts_of}
use Rattle.cal_hijri.specs.HijriNames.{hijri_era_year, hijri_names}
use Rattle.cal_arith.specs.declared.dates.Ymd.{Ymd}
use Rattle.cal_hijri.specs.declared.hijri_year.HijriYear.{HijriYear}

-- a leap year has 355 days: seven of its months have 30
abbrev pub hijri_leap : (ℤ → HijriYear) → ℤ → Bool
hijri_leap year_of y = year_length (hijri_list year_of) y == 355

-- by the years of the rules, and their reference years; no month is a leap month
abbrev pub hijri_system : (ℤ → HijriYear) → (MonthParts → ℕ → Result ℤ EcmaReferenceYearError) → CalendarSystem
hijri_system year_of reference =
    own_system (hijri_years year_of) (hijri_names reference) (hijri_leap year_of) (λ y. Era (hijri_era_year y))
    (λ _ _. Normal) (λ _ _ month. month)

-- the date that a kept date stands for
abbrev pub kept_date : Ymd HijriYear → Date
kept_date d = date d.year.extended_year d.month d.day

-- its year is the calendar's year of its number, it is a date of the list, and its day number is in the valid range
abbrev pub hijri_belongs : (ℤ → HijriYear) → Ymd HijriYear → Bool
hijri_belongs year_of d =
    has_parts_of (year_of d.year.extended_year) d.year && is_valid_date (hijri_list year_of) (kept_date d)
