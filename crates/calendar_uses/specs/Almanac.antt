-- A Chinese new year by the rows of a text.
use Rattle.std.specs.Prelude.{◌≡◌, ℕ, ℤ, true, List, Ok}
use Rattle.icu_calendar.specs.CalendarList.{Date, day_number}
use Rattle.icu_calendar.specs.CalendarSystem.{CalendarSystem}
use Rattle.icu_calendar.specs.Constructing.{made_date}
use Rattle.icu_calendar.specs.IsoSystem.{iso_list}
use Rattle.icu_calendar.specs.Kinds.{kind_system}
use Rattle.icu_calendar.specs.Month.{plain_month}
use Rattle.icu_calendar.specs.OwnRows.{TableRows, AreAccepted, AreRows, contents_of, lines_in}
use Rattle.icu_calendar.specs.declared.AnyCalendarKind.TheVariants.{Chinese}
use Rattle.icu_calendar.specs.declared.YearInput.TheVariants.{Extended}

-- the Chinese calendar over the tables of rows
abbrev pub chinese_by : TableRows → CalendarSystem
chinese_by rows = kind_system (contents_of rows) Chinese

-- each line of a text gives nothing or a row, the tables of its rows are accepted, and a date of ISO is on the day of
-- the first day of a year of the Chinese calendar over them
pub record IsNewYearByRows (text : List ℕ) (year : ℤ) (iso : Date) : Type 0 where
  pub rows : TableRows
  pub gives : AreRows (lines_in text true) rows
  pub accepted : AreAccepted rows
  pub first : Date
  pub made : made_date (chinese_by rows).list (chinese_by rows).year_names (Extended year) (plain_month 1) 1 ≡ Ok first
  pub same_day : day_number iso_list iso ≡ day_number (chinese_by rows).list first
