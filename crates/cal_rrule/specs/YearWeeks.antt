-- The weeks of a year, and the days of those that BYWEEKNO has.
use Rattle.std.specs.Prelude.{◌≡◌, ℕ, ◌<◌, ◌+◌, ◌-◌, ◌⊎◌, ◌↔◌, IsTrue, MatchOption, Option, ℤ, neg_ℤ, pos, ◌+ℤ◌, ◌-ℤ◌, ◌≤ℤ◌, ◌<ℤ◌}
use Rattle.cal_days.specs.Day.{IsBetween}
use Rattle.cal_days.specs.Division.{floor_mod}
use Rattle.cal_types.specs.CalendarList.{CalendarList, Date, start_of_year}
use Rattle.cal_types.specs.declared.weekday.Weekday.{Weekday}
use Rattle.cal_rule.specs.Sets.{has_place}
use Rattle.cal_rule.specs.declared.place_set.Place.{Place}
use Rattle.cal_rule.specs.declared.place_set.Place.TheVariants.{FromFront, FromBack}
use Rattle.cal_rule.specs.declared.place_set.PlaceSet.{PlaceSet}
use Rattle.cal_rule.specs.declared.rule.RecurrenceRule.{RecurrenceRule}
use Rattle.cal_rrule.specs.Looks.{IsYearLook}
use Rattle.cal_rrule.specs.Periods.{IsNamedInYear, NoMonthDays, NoWeekdays, NoYearDays}
use Rattle.cal_rrule.specs.Weeks.{BelongsTo, IsWeekNumber, IsWeekOf, IsWeekday, weeks_behind}
use Rattle.cal_rrule.specs.declared.year_look.YearLook.{YearLook}

-- the weeks that belong to a year are so many in a row
pub record AreWeeksOf (c : CalendarList) (start : Weekday) (y first : ℤ) (count : ℕ) : Type 0 where
  pub begins : IsWeekday start first
  pub exact : (w : ℤ) → IsWeekday start w → BelongsTo c y w ↔ ((i : ℕ) × (i < count) × (w ≡ weeks_behind first i))

-- a week of so many in a row has a number in a set, counted from either end
abbrev pub IsNumbered : PlaceSet 1 → ℕ → ℕ → Type 0
IsNumbered set count i =
    IsTrue (has_place set (FromFront (i + 1))) ⊎ IsTrue (has_place set (FromBack (count - i)))

-- a day is in the week that lies so many weeks behind another
abbrev pub IsInWeekAt : ℤ → ℕ → ℤ → Type 0
IsInWeekAt first i n = (weeks_behind first i ≤ℤ n) × (n <ℤ (weeks_behind first i +ℤ pos 7))

-- a day is in a week of so many in a row that has a number in a set: in one of those before a week
abbrev pub IsInNumbered : PlaceSet 1 → ℤ → ℕ → ℕ → ℤ → Type 0
IsInNumbered set first count most n =
    (i : ℕ) × (i < most) × IsNumbered set count i × IsInWeekAt first i n

-- a day's week is one of BYWEEKNO in a year
abbrev pub IsOfWeekNumbers : CalendarList → RecurrenceRule → ℤ → ℤ → Type 0
IsOfWeekNumbers c rule y n =
    (w : ℤ) × IsWeekOf rule.week_start n w × (k : Place) × IsTrue (has_place rule.weeks k) × IsWeekNumber c y w k

-- a day is named in a year, in the one before it or in the one after it
abbrev pub IsNamedAbout : CalendarList → RecurrenceRule → Date → ℤ → ℤ → Type 0
IsNamedAbout c rule t y n =
    IsNamedInYear c rule t y n
    ⊎ (IsNamedInYear c rule t (y -ℤ pos 1) n ⊎ IsNamedInYear c rule t (y +ℤ pos 1) n)

-- where no part but BYWEEKNO and BYMONTH names days, a day has the start's weekday
abbrev pub HasStartWeekday : RecurrenceRule → ℤ → ℤ → Type 0
HasStartWeekday rule start n =
    NoYearDays rule → NoMonthDays rule → NoWeekdays rule → floor_mod n 7 ≡ floor_mod start 7

-- what was found is a year near the valid days, or the year begins more than three days behind a last day
abbrev pub IsYearWithin : CalendarList → ℤ → ℤ → Option YearLook → Type 0
IsYearWithin c y last found =
    MatchOption found ((last +ℤ pos 3) <ℤ start_of_year c y)
    (λ look. IsYearLook c look × (look.year ≡ y)
    × IsBetween (neg_ℤ (pos 365243000)) (pos 365243000) look.first)
