-- From where months are counted.
use Rattle.std.specs.Prelude.{◌≡◌, ◌<◌, ◌+ℤ◌, ◌*ℤ◌, ◌≤ℤ◌, ℕ, Bool, Some, pos, neg_ℤ}
use Rattle.cal_days.specs.Day.{IsBetween, IsFieldYear}
use Rattle.cal_types.specs.declared.options.Overflow.TheVariants.{Constrain}
use Rattle.cal_types.specs.CalendarList.{month_at, month_number, spot}
use Rattle.cal_types.specs.Difference.{toward}
use Rattle.cal_arith.specs.declared.dates.Ymd.{Ymd}
use Rattle.cal_arith.specs.declared.months.MonthsFrom.{MonthsFrom}
use Rattle.cal_arith.specs.declared.months.YearMonth.{YearMonth}
use Rattle.cal_arith.specs.Given.{CalendarYears, HasMonth, IsGiven}

-- a month from which months are counted, forward or back
pub record IsCountable {Y : Type 0} (years : CalendarYears Y) (given : Y) (i : ℕ) : Type 0 where
  pub range : IsBetween (neg_ℤ (pos 2080000)) (pos 2080000) (years.extended given)
  pub month : HasMonth years given i

-- the month so many years from a date's: of its month, or of what stands in for it in that year
pub record IsYearsFrom {Y : Type 0} (years : CalendarYears Y) (from : Ymd Y) (back : Bool) (n : ℕ)
    (there : YearMonth Y) : Type 0 where
  pub year : IsGiven years there.year
  pub number : years.extended there.year ≡ years.extended from.year +ℤ toward back n
  pub range : IsFieldYear (years.extended there.year)
  pub place : spot years.list (years.extended there.year)
      (month_at years.list (years.extended from.year) from.month) Constrain ≡ Some there.month

-- fewer months from a later year's first one lead to the month that n months lead to from a year's first one
pub record IsMonthsFrom {Y : Type 0} (years : CalendarYears Y) (from : Y) (n : ℕ) (there : MonthsFrom Y) : Type 0 where
  pub given : IsGiven years there.year
  pub moved : month_number years.list (years.extended there.year) 1 +ℤ pos there.months
      ≡ month_number years.list (years.extended from) 1 +ℤ pos n
  pub fewer : there.months < n
  pub bound : (pos 12 *ℤ years.extended there.year +ℤ pos there.months) ≤ℤ (pos 12 *ℤ years.extended from +ℤ pos n)
