-- What an iterator of anniversaries keeps, and which of them it still has to give.
use Rattle.std.specs.Prelude.{◌≡◌, ℕ, MatchOption, List, [], Option, Some, None, ℤ, pos, ◌≤ℤ◌, neg_ℤ}
use Rattle.cal_days.specs.Day.{IsBetween}
use Rattle.cal_types.specs.Month.{MonthParts}
use Rattle.cal_types.specs.MonthParts.{month_parts}
use Rattle.cal_types.specs.CalendarList.{CalendarList}
use Rattle.cal_types.specs.Anniversary.{anniversaries_between}
use Rattle.cal_anniversary.specs.Asking.{IsAsked}
use Rattle.cal_types.specs.WindowDays.{IsAfter}
use Rattle.cal_anniversary.specs.YearlyDays.{IsOfYear}
use Rattle.cal_types.specs.declared.leaping.Leaping.{Leaping}
use Rattle.cal_types.specs.declared.window.Window.{Window}
use Rattle.cal_anniversary.specs.declared.yearly_day.YearlyDay.{YearlyDay}

-- the anniversaries of a window lie in the years from a first to a last one
abbrev pub AreInYears : CalendarList → Leaping → MonthParts → ℕ → ℤ → ℤ → Option Window → Type 0
AreInYears c leaping m d first last rest =
    (w : Window) (y n : ℤ) → rest ≡ Some w → IsBetween w.first w.last n → IsOfYear c leaping m d y n →
    IsBetween first last y

-- all anniversaries of a window lie in the years of its first and last day
pub record AreYearsOf (c : CalendarList) (w : Window) (first last : ℤ) : Type 0 where
  pub low : neg_ℤ (pos 1040000) ≤ℤ first
  pub high : last ≤ℤ pos 1040000
  pub years : (leaping : Leaping) (m : MonthParts) (d : ℕ) → AreInYears c leaping m d first last (Some w)

-- what an iterator keeps: the years of what is left
pub record IsListing (c : CalendarList) (asked : YearlyDay) (rest : Option Window) (first last : ℤ) : Type 0 where
  pub accepted : IsAsked c (month_parts asked.month) asked.day
  pub low : neg_ℤ (pos 1040000) ≤ℤ first
  pub high : last ≤ℤ pos 1040000
  pub years : AreInYears c asked.leaping (month_parts asked.month) asked.day first last rest

-- the anniversaries of what is left of a window
abbrev pub anniversaries_in : CalendarList → Leaping → MonthParts → ℕ → Option Window → List ℤ
anniversaries_in c leaping m d None = []
anniversaries_in c leaping m d (Some w) = anniversaries_between c leaping m d w.first w.last

-- the days that are still to be given
abbrev pub days_left : CalendarList → YearlyDay → Option Window → List ℤ
days_left c asked rest = anniversaries_in c asked.leaping (month_parts asked.month) asked.day rest

-- what is left of a window after an answer: the days after the one that was given, and nothing where none was
abbrev pub IsRest : Option Window → Option ℤ → Option Window → Type 0
IsRest before given rest = MatchOption given (rest ≡ None) (λ n. (w : Window) × (before ≡ Some w) × IsAfter w n rest)

-- between two calls the calendar and what is asked for stay, and of the window is left what the answer leaves
pub record GoesOn {C : Type 0} (calendar next_calendar : C) (asked next_asked : YearlyDay)
    (before : Option Window) (given : Option ℤ) (rest : Option Window) : Type 0 where
  pub calendar_stays : next_calendar ≡ calendar
  pub asked_stays : next_asked ≡ asked
  pub is_rest : IsRest before given rest
