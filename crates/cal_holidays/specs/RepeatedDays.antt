-- The days that a recurrence rule of a book names.
-- Source: RFC 5545, 3.3.10; RFC 7529, 4.
use Rattle.std.specs.Prelude.{◌≡◌, List, Option, ℤ, ◌+ℤ◌}
use Rattle.cal_days.specs.Division.{floor_mod}
use Rattle.cal_types.specs.CalendarList.{CalendarList}
use Rattle.cal_types.specs.DayDates.{date_on}
use Rattle.rule_lists.specs.TextOccurrences.{OccursByText}
use Rattle.cal_holidays.specs.Observing.{IsKept, move_on}
use Rattle.cal_holidays.specs.YearOfDay.{IsInYear}
use Rattle.cal_holidays.specs.Rules.{Repeated}
use Rattle.cal_holidays.specs.declared.recurring_rule.RecurringRule.{RecurringRule}
use Rattle.cal_holidays.specs.declared.rule_years.RuleYears.{RuleYears}

-- an occurrence in a year in which the rule is kept moves to a day: by how many days, its weekday decides
pub record RepeatsOn (c : CalendarList) (r : Repeated) (years : RuleYears) (moves : List (Option ℤ)) (n : ℤ)
    : Type 0 where
  pub own : ℤ
  pub occurs : OccursByText c r.calendar r.text (date_on c r.start) own
  pub year : ℤ
  pub in_year : IsInYear c year own
  pub kept : IsKept years year
  pub moved : n ≡ own +ℤ move_on moves (floor_mod own 7)

-- the rule that the program's value stands for
abbrev pub repeated_said : RecurringRule → Repeated
repeated_said r = record { calendar = r.calendar; text = r.text.items; start = r.start }
