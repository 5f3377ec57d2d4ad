-- Rules of holidays, the years in which they are kept, and the moves of their days.
use Rattle.std.specs.Prelude.{ℕ, zero, suc, ℤ, pos, negsuc, neg_ℤ, Bool, true, false, ◌&&◌, nat_le, int_le, List, Option, Some, None}
use Rattle.cal_kinds.specs.declared.any_calendar_kind.AnyCalendarKind.{AnyCalendarKind}
use Rattle.cal_kinds.specs.declared.any_calendar_kind.AnyCalendarKind.TheVariants as kind
use Rattle.cal_types.specs.Month.{MonthParts}
use Rattle.cal_types.specs.MonthParts.{month_parts}
use Rattle.cal_types.specs.declared.leaping.Leaping.{Leaping}
use Rattle.cal_types.specs.declared.weekday.Weekday.{Weekday}
use Rattle.cal_holidays.specs.KindMonths.{knows_month}
use Rattle.cal_holidays.specs.Observing.{are_proper_moves, are_proper_years}
use Rattle.cal_holidays.specs.declared.holiday_rule.HolidayRule.{HolidayRule}
use Rattle.cal_holidays.specs.declared.holiday_rule.HolidayRule.TheVariants as held
use Rattle.cal_holidays.specs.declared.holiday_rule.SpanWeek.{SpanWeek}
use Rattle.cal_holidays.specs.declared.observance.Observance.{Observance}
use Rattle.cal_holidays.specs.declared.rule_years.RuleYears.{RuleYears}

-- a month and a day of a calendar; a number of days after Easter of the Julian calendar or the Gregorian;
-- the weekday of a month that is the first to the fifth, or the last (-1); or a weekday of the week from or up to a
-- month and a day
pub data Rule : Type 0 where
  Fixed : AnyCalendarKind → MonthParts → ℕ → Leaping → Rule
  Easter : Bool → ℤ → Rule
  Nth : AnyCalendarKind → MonthParts → ℤ → Weekday → Rule
  Span : AnyCalendarKind → MonthParts → ℕ → SpanWeek → Weekday → Rule

-- the rule that the program's value stands for
abbrev pub rule_said : HolidayRule → Rule
rule_said (held.Fixed calendar month day leaping) = Fixed calendar (month_parts month) day leaping
rule_said (held.Easter julian offset) = Easter julian offset
rule_said (held.Nth calendar month nth weekday) = Nth calendar (month_parts month) nth weekday
rule_said (held.Span calendar month day week weekday) = Span calendar (month_parts month) day week weekday

-- the calendar of Easter
abbrev pub easter_calendar : Bool → AnyCalendarKind
easter_calendar false = kind.Gregorian
easter_calendar true = kind.Julian

-- the calendar whose years a rule counts
abbrev pub rule_calendar : Rule → AnyCalendarKind
rule_calendar (Fixed calendar month day leaping) = calendar
rule_calendar (Easter julian offset) = easter_calendar julian
rule_calendar (Nth calendar month nth weekday) = calendar
rule_calendar (Span calendar month day week weekday) = calendar

-- the first to the fifth, or the last (-1)
abbrev pub is_nth_number : ℤ → Bool
is_nth_number (pos nth) = nat_le 1 nth && nat_le nth 5
is_nth_number (negsuc zero) = true
is_nth_number (negsuc (suc _)) = false

-- a day of a month
abbrev pub is_month_day : ℕ → Bool
is_month_day day = nat_le 1 day && nat_le day 31

-- whether a rule's numbers are in their ranges, and its month is one of its calendar
abbrev pub is_proper : Rule → Bool
is_proper (Fixed calendar month day leaping) = knows_month calendar month && is_month_day day
is_proper (Easter julian offset) = int_le (neg_ℤ (pos 400)) offset && int_le offset (pos 400)
is_proper (Nth calendar month nth weekday) = knows_month calendar month && is_nth_number nth
is_proper (Span calendar month day week weekday) = knows_month calendar month && is_month_day day

-- a rule, the years in which it is kept, and by how many days its day moves, by weekdays from Sunday on
pub record Observed : Type 0 where
  pub rule : Rule
  pub years : RuleYears
  pub moves : List (Option ℤ)

-- what the program's value stands for
abbrev pub observed : Observance → Observed
observed o = record { rule = rule_said o.rule; years = o.years; moves = o.moves.days }

-- whether all its numbers are in their ranges
abbrev pub is_proper_observed : Observed → Bool
is_proper_observed kept = is_proper kept.rule && (are_proper_years kept.years && are_proper_moves kept.moves)

-- a recurrence rule for a kind of calendar, by its text, and the day on which it starts
pub record Repeated : Type 0 where
  pub calendar : AnyCalendarKind
  pub text : List ℕ
  pub start : ℤ

-- the rule of a record: one with at most one day in each year, or a recurrence rule
pub data DayRule : Type 0 where
  Yearly : Rule → DayRule
  Recurring : Repeated → DayRule

-- a rule, the years in which it is kept, and by how many days its days move, by weekdays from Sunday on
pub record Kept : Type 0 where
  pub rule : DayRule
  pub years : RuleYears
  pub moves : List (Option ℤ)

-- whether the numbers of a rule are in their ranges; a recurrence rule has none that could be out of them
abbrev pub is_proper_rule : DayRule → Bool
is_proper_rule (Yearly rule) = is_proper rule
is_proper_rule (Recurring r) = true

-- whether all numbers are in their ranges
abbrev pub is_proper_kept : Kept → Bool
is_proper_kept kept = is_proper_rule kept.rule && (are_proper_years kept.years && are_proper_moves kept.moves)

-- the rule of a day in each year, or the recurrence rule, if it is one
abbrev pub yearly_of : DayRule → Option Rule
yearly_of (Yearly rule) = Some rule
yearly_of (Recurring r) = None

abbrev pub recurrence_of : DayRule → Option Repeated
recurrence_of (Yearly rule) = None
recurrence_of (Recurring r) = Some r

-- a holiday of a book: its name, and what names its days
pub record NamedRule : Type 0 where
  pub name : List ℕ
  pub kept : Kept
