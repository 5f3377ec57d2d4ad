-- The values of a rule's parts in a kind of calendar.
-- Source: RFC 5545, 3.3.10; RFC 7529, 4. Ranges are the calendar's own.
use Rattle.std.specs.Prelude.{ℕ, List, Option, Some, Result}
use Rattle.cal_kinds.specs.declared.any_calendar_kind.AnyCalendarKind.{AnyCalendarKind}
use Rattle.cal_rule.specs.CalendarNames.{calendar_fault}
use Rattle.cal_rule.specs.Faults.{error_in}
use Rattle.cal_rule.specs.KindRanges.{ranges_of}
use Rattle.cal_rule.specs.Lists.{list_read}
use Rattle.cal_rule.specs.Months.{month_read}
use Rattle.cal_rule.specs.Numbers.{count_read}
use Rattle.cal_rule.specs.Places.{place_read}
use Rattle.cal_rule.specs.Until.{until_read}
use Rattle.cal_rule.specs.WeekdayItems.{weekday_item_read}
use Rattle.cal_rule.specs.Words.{frequency_read, skip_read, weekday_read}
use Rattle.cal_rule.specs.declared.place_set.Place.{Place}
use Rattle.cal_rule.specs.declared.rule_error.RuleError.{RuleError}
use Rattle.cal_rule.specs.declared.rule_error.RuleError.TheVariants.{TimeNotSupported}
use Rattle.cal_rule.specs.declared.rule_part.RulePart.{RulePart}
use Rattle.cal_rule.specs.declared.rule_part.RulePart.TheVariants as part
use Rattle.cal_rule.specs.declared.value_fault.ValueFault.{ValueFault}
use Rattle.cal_rule.specs.declared.weekday_places.WeekdayPlace.{WeekdayPlace}

-- values of BYMONTHDAY; of BYYEARDAY and BYSETPOS; of BYWEEKNO; and of BYDAY
abbrev pub month_day_read : AnyCalendarKind → List ℕ → Result Place ValueFault
month_day_read kind = place_read (record { digits = 2; most = (ranges_of kind).month_day })

abbrev pub year_day_read : AnyCalendarKind → List ℕ → Result Place ValueFault
year_day_read kind = place_read (record { digits = 3; most = (ranges_of kind).year_day })

abbrev pub week_read : AnyCalendarKind → List ℕ → Result Place ValueFault
week_read kind = place_read (record { digits = 2; most = (ranges_of kind).week })

abbrev pub weekday_in_kind : AnyCalendarKind → List ℕ → Result WeekdayPlace ValueFault
weekday_in_kind kind = weekday_item_read (ranges_of kind).week

-- what is wrong with the value of a part
abbrev pub value_fault : AnyCalendarKind → RulePart → List ℕ → Option RuleError
value_fault kind part.Freq text = error_in part.Freq (frequency_read text)
value_fault kind part.Until text = error_in part.Until (until_read text)
value_fault kind part.Count text = error_in part.Count (count_read text)
value_fault kind part.Interval text = error_in part.Interval (count_read text)
value_fault kind part.BySecond text = Some (TimeNotSupported part.BySecond)
value_fault kind part.ByMinute text = Some (TimeNotSupported part.ByMinute)
value_fault kind part.ByHour text = Some (TimeNotSupported part.ByHour)
value_fault kind part.ByDay text = error_in part.ByDay (list_read (weekday_in_kind kind) text)
value_fault kind part.ByMonthDay text = error_in part.ByMonthDay (list_read (month_day_read kind) text)
value_fault kind part.ByYearDay text = error_in part.ByYearDay (list_read (year_day_read kind) text)
value_fault kind part.ByWeekNo text = error_in part.ByWeekNo (list_read (week_read kind) text)
value_fault kind part.ByMonth text = error_in part.ByMonth (list_read (month_read kind) text)
value_fault kind part.BySetPos text = error_in part.BySetPos (list_read (year_day_read kind) text)
value_fault kind part.Wkst text = error_in part.Wkst (weekday_read text)
value_fault kind part.Rscale text = calendar_fault kind text
value_fault kind part.Skip text = error_in part.Skip (skip_read text)
