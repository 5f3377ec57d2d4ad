-- Values that are single words.
-- Source: RFC 5545, 3.3.10; RFC 7529, 4.1.
use Rattle.std.specs.Prelude.{ℕ, if◌then◌else◌, List, Result, Err}
use Rattle.std.specs.Option.{ok_or}
use Rattle.cal_types.specs.declared.weekday.Weekday.{Weekday}
use Rattle.cal_rule.specs.RuleNames.{frequency_named, is_time_frequency, skip_named, weekday_named}
use Rattle.cal_rule.specs.declared.frequency.Frequency.{Frequency}
use Rattle.cal_rule.specs.declared.skip.Skip.{Skip}
use Rattle.cal_rule.specs.declared.value_fault.ValueFault.{ValueFault}
use Rattle.cal_rule.specs.declared.value_fault.ValueFault.TheVariants.{Bad, Time}

abbrev pub frequency_read : List ℕ → Result Frequency ValueFault
frequency_read text = if is_time_frequency text then Err Time else ok_or (frequency_named text) Bad

abbrev pub skip_read : List ℕ → Result Skip ValueFault
skip_read text = ok_or (skip_named text) Bad

abbrev pub weekday_read : List ℕ → Result Weekday ValueFault
weekday_read text = ok_or (weekday_named text) Bad
