-- Recurrence rules as texts: parts NAME=VALUE, which semicolons join.
-- Source: RFC 5545, 3.3.10; RFC 7529, 4.
use Rattle.std.specs.Prelude.{◌≡◌, ℕ, ◌&&◌, ◌||◌, not, nat_lt, Bool, true, false, if◌then◌else◌, List, [], ◌∷◌, ◌++◌, length, Option, Some, None, Result, Ok, Err}
use Rattle.std.specs.List.{list_any}
use Rattle.std.specs.Option.{is_some, option_and_then, option_or, unwrap_or}
use Rattle.std.specs.Result.{result_ok}
use Rattle.cal_kinds.specs.declared.any_calendar_kind.AnyCalendarKind.{AnyCalendarKind}
use Rattle.cal_types.specs.declared.weekday.Weekday.TheVariants.{Monday}
use Rattle.cal_rule.specs.Lists.{HasValues, values_of}
use Rattle.cal_rule.specs.Months.{month_read}
use Rattle.cal_rule.specs.Numbers.{count_read}
use Rattle.cal_rule.specs.Pieces.{halves_of, pieces_of}
use Rattle.cal_rule.specs.RuleNames.{is_part, part_named}
use Rattle.cal_rule.specs.Sets.{has_month, has_place, has_weekday, is_month, is_place, is_weekday_place}
use Rattle.cal_rule.specs.Until.{until_read}
use Rattle.cal_rule.specs.Values.{month_day_read, value_fault, week_read, weekday_in_kind, year_day_read}
use Rattle.cal_rule.specs.Words.{frequency_read, skip_read, weekday_read}
use Rattle.cal_rule.specs.declared.frequency.Frequency.{Frequency}
use Rattle.cal_rule.specs.declared.frequency.Frequency.TheVariants as every
use Rattle.cal_rule.specs.declared.rule.RecurrenceRule.{RecurrenceRule}
use Rattle.cal_rule.specs.declared.rule_error.RuleError.{RuleError}
use Rattle.cal_rule.specs.declared.rule_error.RuleError.TheVariants as error
use Rattle.cal_rule.specs.declared.rule_part.RulePart.{RulePart}
use Rattle.cal_rule.specs.declared.rule_part.RulePart.TheVariants as part
use Rattle.cal_rule.specs.declared.skip.Skip.TheVariants.{Omit}
use Rattle.cal_rule.specs.declared.value_fault.ValueFault.{ValueFault}

-- the parts of a rule, which semicolons (59) join
abbrev pub parts_of : List ℕ → List (List ℕ)
parts_of text = pieces_of 59 text

-- a value, where its part is this one
abbrev pub value_if : RulePart → Option RulePart → List ℕ → Option (List ℕ)
value_if p None value = None
value_if p (Some named) value = if is_part p named then Some value else None

-- the value that a text gives a part: the text is the part's name, `=` (61) and the value
abbrev pub said_by : List ℕ → RulePart → Option (List ℕ)
said_by text p = option_and_then (λ halves. value_if p (part_named halves.0) halves.1) (halves_of 61 text)

-- the value that some texts give a part: that of the first which gives it one
abbrev pub value_of : List (List ℕ) → RulePart → Option (List ℕ)
value_of [] p = None
value_of (text ∷ texts) p = option_or (said_by text p) (value_of texts p)

-- what is wrong with a part and its value behind earlier values: the part came before, or the value isn't one of it
abbrev pub repeated_or : AnyCalendarKind → (RulePart → Option (List ℕ)) → RulePart → List ℕ → Option RuleError
repeated_or kind earlier p value =
    if is_some (earlier p) then Some (error.RepeatedPart p) else value_fault kind p value

-- the same of what a name names
abbrev pub unknown_or : AnyCalendarKind → (RulePart → Option (List ℕ)) → Option RulePart → List ℕ → Option RuleError
unknown_or kind earlier None value = Some error.UnknownPart
unknown_or kind earlier (Some p) value = repeated_or kind earlier p value

-- the same of what stands before and behind `=`
abbrev pub bad_or : AnyCalendarKind → (RulePart → Option (List ℕ)) → Option (List ℕ × List ℕ) → Option RuleError
bad_or kind earlier None = Some error.BadPart
bad_or kind earlier (Some halves) = unknown_or kind earlier (part_named halves.0) halves.1

-- what is wrong with a text as a part behind earlier values
abbrev pub part_fault : AnyCalendarKind → (RulePart → Option (List ℕ)) → List ℕ → Option RuleError
part_fault kind earlier text = bad_or kind earlier (halves_of 61 text)

-- what is wrong with the first text that is no part, behind earlier ones
abbrev pub first_fault : AnyCalendarKind → List (List ℕ) → List (List ℕ) → Option RuleError
first_fault kind earlier [] = None
first_fault kind earlier (text ∷ texts) =
    option_or (part_fault kind (value_of earlier) text) (first_fault kind (earlier ++ text ∷ []) texts)

-- what was read of a value, if it is there and is one
abbrev pub said_with : {A : Type 0} → (List ℕ → Result A ValueFault) → Option (List ℕ) → Option A
said_with read None = None
said_with read (Some text) = result_ok (read text)

-- an error where a test says so
abbrev pub error_if : Bool → RuleError → Option RuleError
error_if b e = if b then Some e else None

abbrev pub is_yearly : Frequency → Bool
is_yearly every.Yearly = true
is_yearly every.Monthly = false
is_yearly every.Weekly = false
is_yearly every.Daily = false

abbrev pub is_weekly : Frequency → Bool
is_weekly every.Yearly = false
is_weekly every.Monthly = false
is_weekly every.Weekly = true
is_weekly every.Daily = false

abbrev pub is_daily : Frequency → Bool
is_daily every.Yearly = false
is_daily every.Monthly = false
is_daily every.Weekly = false
is_daily every.Daily = true

-- whether a list has an item of more than two bytes
abbrev pub has_long_item : List ℕ → Bool
has_long_item text = list_any (λ item. nat_lt 2 (length item)) (pieces_of 44 text)

-- whether a list of weekdays has an ordinal: then a weekday has more than its two letters
abbrev pub has_ordinals : Option (List ℕ) → Bool
has_ordinals None = false
has_ordinals (Some text) = has_long_item text

-- COUNT and UNTIL exclude each other
abbrev pub end_fault : (RulePart → Option (List ℕ)) → Option RuleError
end_fault values = error_if (is_some (values part.Count) && is_some (values part.Until)) error.CountWithUntil

-- weeks and days of the year are for years, and weeks have no days of the month
abbrev pub frequency_fault : Frequency → (RulePart → Option (List ℕ)) → Option RuleError
frequency_fault f values =
    option_or (error_if (is_some (values part.ByWeekNo) && not (is_yearly f)) (error.PartNotAllowed part.ByWeekNo))
    (option_or (error_if (is_some (values part.ByYearDay) && not (is_yearly f)) (error.PartNotAllowed part.ByYearDay))
    (error_if (is_some (values part.ByMonthDay) && is_weekly f) (error.PartNotAllowed part.ByMonthDay)))

-- an ordinal needs months or years, and no weeks
abbrev pub ordinal_fault : Frequency → (RulePart → Option (List ℕ)) → Option RuleError
ordinal_fault f values =
    error_if (has_ordinals (values part.ByDay) && ((is_daily f || is_weekly f) || is_some (values part.ByWeekNo)))
    error.OrdinalNotAllowed

-- whether another part names days
abbrev pub names_days : (RulePart → Option (List ℕ)) → Bool
names_days values =
    (is_some (values part.ByMonth) || is_some (values part.ByWeekNo))
    || (is_some (values part.ByYearDay) || (is_some (values part.ByMonthDay) || is_some (values part.ByDay)))

-- BYSETPOS is not alone
abbrev pub position_fault : (RulePart → Option (List ℕ)) → Option RuleError
position_fault values = error_if (is_some (values part.BySetPos) && not (names_days values)) error.SetPosAlone

-- what is wrong with the whole rule, whose frequency is this one
abbrev pub fault_beside : Frequency → (RulePart → Option (List ℕ)) → Option RuleError
fault_beside f values =
    option_or (end_fault values)
    (option_or (frequency_fault f values) (option_or (ordinal_fault f values) (position_fault values)))

-- the same, where the frequency may be missing
abbrev pub beside_frequency : Option Frequency → (RulePart → Option (List ℕ)) → Option RuleError
beside_frequency None values = Some (error.MissingPart part.Freq)
beside_frequency (Some f) values = fault_beside f values

abbrev pub whole_fault : (RulePart → Option (List ℕ)) → Option RuleError
whole_fault values = beside_frequency (said_with frequency_read (values part.Freq)) values

-- the first thing that is wrong with a text as a rule: with a part, or with the whole
abbrev pub rule_fault : AnyCalendarKind → List ℕ → Option RuleError
rule_fault kind text =
    option_or (first_fault kind [] (parts_of text)) (whole_fault (value_of (parts_of text)))

-- a rule is what the values of the parts say; a list that is missing is an empty set
pub record SaysRule (kind : AnyCalendarKind) (values : RulePart → Option (List ℕ))
    (rule : RecurrenceRule) : Type 0 where
  pub frequency : said_with frequency_read (values part.Freq) ≡ Some rule.frequency
  pub interval : rule.interval ≡ unwrap_or (said_with count_read (values part.Interval)) 1
  pub count : rule.count ≡ said_with count_read (values part.Count)
  pub until : rule.until ≡ said_with until_read (values part.Until)
  pub months : HasValues has_month is_month rule.months (values_of (month_read kind) (values part.ByMonth))
  pub month_days : HasValues has_place is_place rule.month_days
      (values_of (month_day_read kind) (values part.ByMonthDay))
  pub year_days : HasValues has_place is_place rule.year_days
      (values_of (year_day_read kind) (values part.ByYearDay))
  pub weeks : HasValues has_place is_place rule.weeks (values_of (week_read kind) (values part.ByWeekNo))
  pub weekdays : HasValues has_weekday is_weekday_place rule.weekdays
      (values_of (weekday_in_kind kind) (values part.ByDay))
  pub positions : HasValues has_place is_place rule.positions
      (values_of (year_day_read kind) (values part.BySetPos))
  pub week_start : rule.week_start ≡ unwrap_or (said_with weekday_read (values part.Wkst)) Monday
  pub skip : rule.skip ≡ unwrap_or (said_with skip_read (values part.Skip)) Omit

-- a rule is what the values of the parts say, and nothing is wrong with it; or what is wrong first
abbrev pub IsWhole : AnyCalendarKind → (RulePart → Option (List ℕ)) → Result RecurrenceRule RuleError → Type 0
IsWhole kind values (Ok rule) = (whole_fault values ≡ None) × SaysRule kind values rule
IsWhole kind values (Err e) = whole_fault values ≡ Some e

-- a text is a rule, and it is this one
pub record IsRuleText (kind : AnyCalendarKind) (text : List ℕ) (rule : RecurrenceRule) : Type 0 where
  pub faultless : rule_fault kind text ≡ None
  pub says : SaysRule kind (value_of (parts_of text)) rule
