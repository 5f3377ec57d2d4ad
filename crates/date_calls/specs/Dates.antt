-- What a date says, and which date a day is.
use Rattle.std.specs.Prelude.{◌≡◌, ℕ, ℤ, Bool, if◌then◌else◌}
use Rattle.cal_types.specs.Year.{era_year_or_related_iso_of}
use Rattle.cal_types.specs.declared.year.YearInfo.{YearInfo}
use Rattle.cal_types.specs.declared.year.YearInfo.TheVariants.{Era, Cyclic}
use Rattle.cal_types.specs.CalendarList.{Date, IsOn, day_number, month_at}
use Rattle.cal_types.specs.CalendarSystem.{CalendarSystem}
use Rattle.date_calls.specs.declared.dates.CalendarDate.{CalendarDate}

-- 1 for what is so, 0 for what isn't
abbrev pub flag : Bool → ℕ
flag holds = if holds then 1 else 0

-- the year in the cycle of sixty years, 0 where the year is in an era
abbrev pub cyclic_number : YearInfo → ℕ
cyclic_number (Era _) = 0
cyclic_number (Cyclic y) = y.year

-- what a date says
pub record AreParts (s : CalendarSystem) (t : Date) (parts : CalendarDate) : Type 0 where
  pub day_number_is : parts.day_number ≡ day_number s.list t
  pub extended_year : parts.extended_year ≡ t.year
  pub era_year : parts.era_year ≡ era_year_or_related_iso_of (s.year_info t)
  pub cyclic_year : parts.cyclic_year ≡ cyclic_number (s.year_info t)
  pub ordinal_month : parts.ordinal_month ≡ t.month
  pub month_number : parts.month_number ≡ (month_at s.list t.year t.month).number
  pub month_is_leap : parts.month_is_leap ≡ flag (month_at s.list t.year t.month).is_leap
  pub day : parts.day ≡ t.day

-- the date of a day
pub record IsShown (s : CalendarSystem) (day : ℤ) (parts : CalendarDate) : Type 0 where
  pub date : Date
  pub on : IsOn s.list day date
  pub says : AreParts s date parts
