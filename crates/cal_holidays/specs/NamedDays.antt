-- Which days a rule names, in the words of dates, and all the days that the rules of a book name in a window.
-- Source: the days of Easter are those of Reingold and Dershowitz, Calendrical Calculations, chapter 9.
use Rattle.std.specs.Prelude.{◌≡◌, ◌<◌, ◌≤◌, ◌+◌, ◌*◌, ◌⊎◌, ◌↔◌, AllPairs, Contains, ℕ, Bool, true, false, List, Option, Some, slice_get, ℤ, pos, neg_ℤ, ◌+ℤ◌, ◌-ℤ◌, ◌≤ℤ◌}
use Rattle.cal_anniversary.specs.FallingOn.{FallsOn}
use Rattle.cal_days.specs.Day.{IsBetween, IsValidDay}
use Rattle.cal_days.specs.Division.{floor_mod}
use Rattle.cal_days.specs.Easter.{IsGregorianEaster, IsJulianEaster}
use Rattle.cal_tables.specs.Kinds.{TableContents, kind_system}
use Rattle.cal_types.specs.CalendarList.{CalendarList, Date, IsOn, month_at, month_length}
use Rattle.cal_types.specs.Month.{MonthParts}
use Rattle.cal_types.specs.Weekday.{days_since_sunday}
use Rattle.cal_types.specs.declared.leaping.Leaping.TheVariants.{Exact}
use Rattle.cal_types.specs.declared.weekday.Weekday.{Weekday}
pub use Rattle.cal_holidays.specs.YearOfDay.{IsInYear}
use Rattle.cal_holidays.specs.Merging.{IsBefore}
use Rattle.cal_holidays.specs.Observing.{IsKept, move_on}
use Rattle.cal_holidays.specs.RepeatedDays.{RepeatsOn}
use Rattle.cal_holidays.specs.Rules.{DayRule, Easter, Fixed, Kept, NamedRule, Nth, Observed, Recurring, Rule, Span, Yearly, rule_calendar}
use Rattle.cal_holidays.specs.declared.holiday_rule.SpanWeek.{SpanWeek}
use Rattle.cal_holidays.specs.declared.rule_years.RuleYears.{RuleYears}
use Rattle.cal_holidays.specs.declared.holiday_rule.SpanWeek.TheVariants.{From, UpTo}

-- a day is a weekday; day number 0 is a Sunday
abbrev pub HasWeekday : Weekday → ℤ → Type 0
HasWeekday weekday n = floor_mod n 7 ≡ days_since_sunday weekday

-- a day of a month of some days is the nth of its weekday: the first of it are the days 1 to 7, the second 8 to 14, and
-- so on; and for -1 it is the last of its weekday, since a week later is past the month
abbrev pub IsNthOf : ℤ → ℕ → ℕ → Type 0
IsNthOf nth length d =
    ((k : ℕ) × (nth ≡ pos k) × (7 * k < d + 7) × (d ≤ 7 * k)) ⊎ ((nth ≡ neg_ℤ (pos 1)) × (length < d + 7))

-- a day is the nth of a weekday in a month of a calendar
pub record IsNthWeekday (c : CalendarList) (m : MonthParts) (nth : ℤ) (weekday : Weekday) (n : ℤ) : Type 0 where
  pub date : Date
  pub on : IsOn c n date
  pub month : month_at c date.year date.month ≡ m
  pub weekday_is : HasWeekday weekday n
  pub place : IsNthOf nth (month_length c date.year date.month) date.day

-- Easter of a year, Julian or Gregorian
abbrev pub IsEasterOf : Bool → ℤ → ℤ → Type 0
IsEasterOf false y n = IsGregorianEaster y n
IsEasterOf true y n = IsJulianEaster y n

-- a day lies in the week from another on, or up to it
abbrev pub IsInWeek : SpanWeek → ℤ → ℤ → Type 0
IsInWeek From day n = IsBetween day (day +ℤ pos 6) n
IsInWeek UpTo day n = IsBetween (day -ℤ pos 6) day n

-- a day is the weekday in the week from, or up to, a valid day of a year that is a month and a day of a calendar
pub record IsSpanDay (c : CalendarList) (m : MonthParts) (d : ℕ) (week : SpanWeek) (weekday : Weekday) (y n : ℤ)
    : Type 0 where
  pub day : ℤ
  pub falls : FallsOn c Exact m d day
  pub valid : IsValidDay day
  pub year : IsInYear c y day
  pub weekday_is : HasWeekday weekday n
  pub within : IsInWeek week day n

-- a day is a rule's own one in a year of its calendar, before it moves
abbrev pub OwnDay : CalendarList → Rule → ℤ → ℤ → Type 0
OwnDay c (Fixed kind m d leaping) y n = FallsOn c leaping m d n × IsInYear c y n
OwnDay c (Easter julian offset) y n = IsEasterOf julian y (n -ℤ offset)
OwnDay c (Nth kind m nth weekday) y n = IsNthWeekday c m nth weekday n × IsInYear c y n
OwnDay c (Span kind m d week weekday) y n = IsSpanDay c m d week weekday y n

-- a valid one of the own days of years moves to a day: by how many days, the weekday on which it falls decides
pub record MovesTo (Own : ℤ → ℤ → Type 0) (moves : List (Option ℤ)) (y n : ℤ) : Type 0 where
  pub own : ℤ
  pub is_own : Own y own
  pub valid : IsValidDay own
  pub moved : n ≡ own +ℤ move_on moves (floor_mod own 7)

-- a rule names a day: in a year in which it is kept, its own day moves there
abbrev pub NamesIn : CalendarList → Observed → ℤ → Type 0
NamesIn c kept n = (y : ℤ) × IsKept kept.years y × MovesTo (OwnDay c kept.rule) kept.moves y n

-- the same in the rule's calendar
abbrev pub NamesBy : TableContents → DayRule → RuleYears → List (Option ℤ) → ℤ → Type 0
NamesBy t (Yearly rule) years moves n =
    NamesIn (kind_system t (rule_calendar rule)).list (record { rule = rule; years = years; moves = moves }) n
NamesBy t (Recurring r) years moves n = RepeatsOn (kind_system t r.calendar).list r years moves n

abbrev pub Names : TableContents → Kept → ℤ → Type 0
Names t kept n = NamesBy t kept.rule kept.years kept.moves n

-- the rule of a number, counted from 0, names a day
abbrev pub NamesInBook : TableContents → List NamedRule → ℕ → ℤ → Type 0
NamesInBook t rules r n = (named : NamedRule) × (slice_get rules r ≡ Some named) × Names t named.kept n

-- some days and numbers of rules are all those from a first day to a last one at which the rule names the day, each
-- once, in order of the days and then of the numbers; on the first day the rules before one are left out
pub record AreHolidays (t : TableContents) (rules : List NamedRule) (first last : ℤ) (first_rule : ℕ)
    (items : List (ℤ × ℕ)) : Type 0 where
  pub rising : AllPairs (λ x y. IsBefore x.0 x.1 y.0 y.1) items
  pub exact : (n : ℤ) (r : ℕ) →
      Contains items (n, r) ↔ (NamesInBook t rules r n × IsBetween first last n × (first ≡ n → first_rule ≤ r))
