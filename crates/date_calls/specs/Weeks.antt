-- The week of a day.
use Rattle.std.specs.Prelude.{◌≡◌, ℕ, ℤ, pos, List, MatchBool}
use Rattle.std.specs.Int.{int_rem_euclid}
use Rattle.std.specs.List.{HoldsAt}
use Rattle.cal_days.specs.Day.{is_valid_day}
use Rattle.cal_types.specs.Weekday.{days_since_sunday, weekday_number}
use Rattle.cal_types.specs.declared.weekday.Weekday.{Weekday}
use Rattle.date_calls.specs.Calls.{IsLeft}
use Rattle.date_calls.specs.declared.weeks.CalendarWeek.{CalendarWeek}
use Rattle.icu_calendar.specs.Weeks.{IsInWeek}

-- the week of a day is told, and the year that it belongs to
pub record IsWeekTold (day : ℤ) (code : ℕ) (year : ℤ) (week : ℕ) : Type 0 where
  pub done : code ≡ 0
  pub is : IsInWeek day year week

-- the day isn't valid, and both are as they were
pub record IsWeekLeft (code : ℕ) (year : ℤ) (week : ℕ) (year_now : ℤ) (week_now : ℕ) : Type 0 where
  pub told : code ≡ 4
  pub year_stands : year_now ≡ year
  pub week_stands : week_now ≡ week

-- the number of a day's weekday in ISO 8601, from 1 for Monday to 7 for Sunday
pub record IsWeekdayOf (day : ℤ) (number : ℕ) : Type 0 where
  pub weekday : Weekday
  pub counts : pos (days_since_sunday weekday) ≡ int_rem_euclid day (pos 7)
  pub is : number ≡ weekday_number weekday

-- the week of a day, the year that it belongs to, and the weekday
pub record AreWeekParts (day : ℤ) (now : CalendarWeek) : Type 0 where
  pub week : IsInWeek day now.year now.week
  pub weekday : IsWeekdayOf day now.weekday

-- both are told
pub record TellsWeek (day : ℤ) (code : ℕ) (now : CalendarWeek) : Type 0 where
  pub done : code ≡ 0
  pub parts : AreWeekParts day now

-- the week of the day at a place
abbrev pub ShowsWeek : ℤ → ℕ → CalendarWeek → CalendarWeek → Type 0
ShowsWeek day code before now = MatchBool (is_valid_day day) (TellsWeek day code now) (IsLeft 4 code before now)

abbrev pub ShowsWeekAt : List ℤ → ℕ → ℕ → CalendarWeek → CalendarWeek → Type 0
ShowsWeekAt days k code before now = HoldsAt (λ day. ShowsWeek day code before now) days k
