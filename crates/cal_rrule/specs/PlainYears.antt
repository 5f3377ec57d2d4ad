-- Rules that say nothing but how often they recur.
use Rattle.std.specs.Prelude.{◌≡◌}
use Rattle.cal_rule.specs.Sets.{has_place}
use Rattle.cal_rule.specs.declared.rule.RecurrenceRule.{RecurrenceRule}
use Rattle.cal_rule.specs.declared.skip.Skip.TheVariants.{Omit}
use Rattle.cal_rrule.specs.Periods.{IsMissing, NoMonthDays, NoMonths, NoWeekdays, NoWeeks, NoYearDays}

-- a rule has no part that names months, days or places, and leaves out days that don't exist
pub record IsPlain (rule : RecurrenceRule) : Type 0 where
  pub months : NoMonths rule
  pub month_days : NoMonthDays rule
  pub year_days : NoYearDays rule
  pub weeks : NoWeeks rule
  pub weekdays : NoWeekdays rule
  pub positions : IsMissing has_place rule.positions
  pub omits : rule.skip ≡ Omit
