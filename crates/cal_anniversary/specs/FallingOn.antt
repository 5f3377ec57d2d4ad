-- Which days a month and a day of a calendar fall on, in the words of dates, and all such days of a window.
-- Source: ECMAScript Temporal's overflow `constrain`, for a year that lacks the month or a month that lacks the day.
use Rattle.std.specs.Prelude.{◌≡◌, ◌<◌, ◌<ℤ◌, ◌⊎◌, ◌↔◌, AllPairs, Contains, ℕ, ℤ, List}
use Rattle.cal_days.specs.Day.{IsBetween}
use Rattle.cal_types.specs.Month.{MonthParts}
use Rattle.cal_types.specs.CalendarList.{CalendarList, Date, HasPlace, IsOn, month_at, month_length}
use Rattle.cal_types.specs.declared.leaping.Leaping.{Leaping}
use Rattle.cal_types.specs.declared.leaping.Leaping.TheVariants.{Exact, Constrain}

-- a year has a month in a place
abbrev pub HasMonth : CalendarList → ℤ → MonthParts → ℕ → Type 0
HasMonth c y m i = HasPlace c y i × (month_at c y i ≡ m)

-- a year has the month in no place
abbrev pub LacksMonth : CalendarList → ℤ → MonthParts → Type 0
LacksMonth c y m = (i : ℕ) → HasMonth c y m i → ⊥

-- a date's month is the month or, in a year that lacks it, the one that the calendar has stand in for it
abbrev pub IsInMonth : CalendarList → MonthParts → Date → Type 0
IsInMonth c m t = HasMonth c t.year m t.month ⊎ (LacksMonth c t.year m × HasMonth c t.year (c.stand_in m) t.month)

-- a date's day is the day or, in a month that is shorter, the month's last one
abbrev pub IsOnDay : CalendarList → ℕ → Date → Type 0
IsOnDay c d t =
    let last = month_length c t.year t.month in
    (t.day ≡ d) ⊎ ((last < d) × (t.day ≡ last))

-- a date is the one of a month and a day in its year. Under Exact it has both; under Constrain it may stand in for them
abbrev pub IsYearly : CalendarList → Leaping → MonthParts → ℕ → Date → Type 0
IsYearly c Exact m d t = HasMonth c t.year m t.month × (t.day ≡ d)
IsYearly c Constrain m d t = IsInMonth c m t × IsOnDay c d t

-- a month and a day fall on a day
pub record FallsOn (c : CalendarList) (leaping : Leaping) (m : MonthParts) (d : ℕ) (n : ℤ) : Type 0 where
  pub date : Date
  pub on : IsOn c n date
  pub yearly : IsYearly c leaping m d date

-- some days are all those of a window that a property holds of, each once and in order
pub record AreDays (Is : ℤ → Type 0) (first last : ℤ) (days : List ℤ) : Type 0 where
  pub rising : AllPairs ◌<ℤ◌ days
  pub exact : (n : ℤ) → Contains days n ↔ (Is n × IsBetween first last n)

-- some days are the anniversaries of a month and a day from one day to another
abbrev pub AreAnniversaries : CalendarList → Leaping → MonthParts → ℕ → ℤ → ℤ → List ℤ → Type 0
AreAnniversaries c leaping m d first last days = AreDays (FallsOn c leaping m d) first last days
