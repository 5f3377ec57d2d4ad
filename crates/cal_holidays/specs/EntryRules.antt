-- What the program holds of the rules of records.
use Rattle.std.specs.Prelude.{ℕ, List, ⊤}
use Rattle.cal_rule.specs.RuleText.{IsRuleText}
use Rattle.cal_holidays.specs.RepeatedDays.{repeated_said}
use Rattle.cal_holidays.specs.Rules.{DayRule, Kept, Recurring, Repeated, Yearly, rule_said}
use Rattle.cal_holidays.specs.declared.entry.EntryRule.{EntryRule}
use Rattle.cal_holidays.specs.declared.entry.EntryRule.TheVariants as held
use Rattle.cal_holidays.specs.declared.holiday_rule.HolidayRule.{HolidayRule}
use Rattle.cal_holidays.specs.declared.reading.ReadRecurrence.{ReadRecurrence}
use Rattle.cal_holidays.specs.declared.reading.ReadRule.{ReadRule}
use Rattle.cal_holidays.specs.declared.reading.ReadRule.TheVariants as read
use Rattle.cal_holidays.specs.declared.reading.Reading.{Reading}

-- the recurrence rule that was read with this text
abbrev pub recurrence_said : List ℕ → ReadRecurrence → Repeated
recurrence_said text r = record { calendar = r.calendar; text = text; start = r.start }

-- a rule of a day in each year
abbrev pub yearly_said : HolidayRule → DayRule
yearly_said rule = Yearly (rule_said rule)

abbrev pub recurring_said : List ℕ → ReadRecurrence → DayRule
recurring_said text r = Recurring (recurrence_said text r)

-- the rule that was read with this text as its value, and the one that is kept
abbrev pub rule_of_reading : List ℕ → ReadRule → DayRule
rule_of_reading text (read.Yearly rule) = Yearly (rule_said rule)
rule_of_reading text (read.Recurring r) = Recurring (recurrence_said text r)

abbrev pub rule_of_entry : EntryRule → DayRule
rule_of_entry (held.Yearly rule) = Yearly (rule_said rule)
rule_of_entry (held.Recurring r) = Recurring (repeated_said r)

-- the text spells the recurrence rule, if it is one
abbrev pub IsSpelled : List ℕ → ReadRule → Type 0
IsSpelled text (read.Yearly rule) = ⊤
IsSpelled text (read.Recurring r) = IsRuleText r.calendar text r.rule

-- what was read of a record behind its name
abbrev pub kept_said : List ℕ → Reading → Kept
kept_said text r = record { rule = rule_of_reading text r.rule; years = r.years; moves = r.moves.days }
