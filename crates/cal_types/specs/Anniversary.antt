-- Which days are anniversaries of a month and a day, and all of them in a window.
-- Source: ECMAScript Temporal's overflow `constrain`, for a year that lacks the month or a month that lacks the day.
use Rattle.std.specs.Prelude.{◌≡◌, ℕ, Bool, false, ◌&&◌, nat_eq, min, List, filter, Option, Some, None, ℤ}
use Rattle.cal_types.specs.Month.{MonthParts, month_rank}
use Rattle.cal_types.specs.declared.options.Overflow.TheVariants as overflow
use Rattle.cal_types.specs.CalendarList.{CalendarList, Date, IsOn, month_at, month_length, spot}
use Rattle.cal_types.specs.DayDates.{date_on}
use Rattle.cal_types.specs.Windows.{days_between}
use Rattle.cal_types.specs.declared.leaping.Leaping.{Leaping}
use Rattle.cal_types.specs.declared.leaping.Leaping.TheVariants.{Exact, Constrain}

-- a date is the one that a month and a day name in its year. Under Exact it has this month and this day.
-- Under Constrain its month is the month, or its stand-in in a year that lacks it, and its day is the day,
-- or the month's last one
abbrev pub IsNamed : CalendarList → Leaping → MonthParts → ℕ → Date → Type 0
IsNamed c Exact m d t = (month_at c t.year t.month ≡ m) × (t.day ≡ d)
IsNamed c Constrain m d t =
    (spot c t.year m overflow.Constrain ≡ Some t.month) × (t.day ≡ min d (month_length c t.year t.month))

-- a day is an anniversary of a month and a day: its date in the calendar is the one that they name in that year
pub record IsAnniversary (c : CalendarList) (leaping : Leaping) (m : MonthParts) (d : ℕ) (n : ℤ) : Type 0 where
  pub date : Date
  pub on : IsOn c n date
  pub named : IsNamed c leaping m d date

-- whether a place is there and is this one
abbrev pub is_place : ℕ → Option ℕ → Bool
is_place i None = false
is_place i (Some j) = nat_eq j i

-- the same as a test of a date
abbrev pub is_named : CalendarList → Leaping → MonthParts → ℕ → Date → Bool
is_named c Exact m d t =
    nat_eq (month_rank (month_at c t.year t.month)) (month_rank m) && nat_eq t.day d
is_named c Constrain m d t =
    is_place t.month (spot c t.year m overflow.Constrain) && nat_eq t.day (min d (month_length c t.year t.month))

-- and as a test of a day
unfoldable pub is_anniversary : CalendarList → Leaping → MonthParts → ℕ → ℤ → Bool
is_anniversary c leaping m d n = is_named c leaping m d (date_on c n)

-- the anniversaries from a first day to a last one: each of these days is tested
abbrev pub anniversaries_between : CalendarList → Leaping → MonthParts → ℕ → ℤ → ℤ → List ℤ
anniversaries_between c leaping m d first last =
    filter (is_anniversary c leaping m d) (days_between first last)
