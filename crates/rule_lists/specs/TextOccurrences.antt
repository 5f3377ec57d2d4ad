-- The days on which a rule occurs that a text spells.
use Rattle.std.specs.Prelude.{ℕ, List, ℤ}
use Rattle.cal_kinds.specs.declared.any_calendar_kind.AnyCalendarKind.{AnyCalendarKind}
use Rattle.cal_types.specs.CalendarList.{CalendarList, Date}
use Rattle.cal_rule.specs.RuleText.{IsRuleText}
use Rattle.cal_rule.specs.declared.rule.RecurrenceRule.{RecurrenceRule}
use Rattle.cal_rrule.specs.Occurrences.{Occurs}

-- a text spells a rule for a kind of calendar, and the rule has an occurrence on a day, from a date on
abbrev pub OccursByText : CalendarList → AnyCalendarKind → List ℕ → Date → ℤ → Type 0
OccursByText c kind text t n =
    (rule : RecurrenceRule) × IsRuleText kind text rule × (index : ℕ) × Occurs c rule t index n
