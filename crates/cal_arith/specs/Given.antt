-- A calendar's years, and the years that it gave.
use Rattle.std.specs.Prelude.{◌≡◌, ℕ, ℤ}
use Rattle.cal_days.specs.Day.{IsRuleYear}
use Rattle.cal_types.specs.CalendarList.{CalendarList, HasPlace}

-- what a calendar's years are: the calendar as a list in extended years;
-- the year of an extended year, and the extended year of a year;
-- and what is added to an extended year to give the stored one
pub record CalendarYears (Y : Type 0) : Type 0 where
  pub list : CalendarList
  pub year_of : ℤ → Y
  pub extended : Y → ℤ
  pub offset : ℤ

-- the year is the calendar's year of its extended year, and that is a rule year
pub record IsGiven {Y : Type 0} (years : CalendarYears Y) (year : Y) : Type 0 where
  pub same : years.year_of (years.extended year) ≡ year
  pub range : IsRuleYear (years.extended year)

-- the year is given, and it has a month in this place
pub record HasMonth {Y : Type 0} (years : CalendarYears Y) (given : Y) (month : ℕ) : Type 0 where
  pub year : IsGiven years given
  pub place : HasPlace years.list (years.extended given) month
