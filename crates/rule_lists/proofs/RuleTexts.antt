-- A text with no fault spells a rule.
use Rattle.std.proofs.Common.{◌≡◌, ℕ, ◌<◌, ◌&&◌, Bool, true, false, if◌then◌else◌, nat_le, List, [], Option, Some, None, Ok, Err, refl, arith}
use Rattle.std.specs.Option.{option_or, unwrap_or}
use Rattle.std.specs.Result.{result_ok}
use Rattle.std.proofs.lemmas.Bool.Decides.{nat_tests}
use Rattle.cal_kinds.specs.declared.any_calendar_kind.AnyCalendarKind.{AnyCalendarKind}
use Rattle.cal_types.specs.declared.weekday.Weekday.TheVariants.{Monday}
use Rattle.cal_rule.specs.Lists.{values_of}
use Rattle.cal_rule.specs.Months.{month_read}
use Rattle.cal_rule.specs.Numbers.{count_read}
use Rattle.cal_rule.specs.RuleText.{IsRuleText, SaysRule, beside_frequency, first_fault, parts_of, rule_fault, said_with, value_of, whole_fault}
use Rattle.cal_rule.specs.Until.{until_read}
use Rattle.cal_rule.specs.Values.{month_day_read, week_read, weekday_in_kind, year_day_read}
use Rattle.cal_rule.specs.Words.{frequency_read, skip_read, weekday_read}
use Rattle.cal_rule.specs.declared.frequency.Frequency.{Frequency}
use Rattle.cal_rule.specs.declared.rule.RecurrenceRule.{RecurrenceRule}
use Rattle.cal_rule.specs.declared.rule_error.RuleError.{RuleError}
use Rattle.cal_rule.specs.declared.rule_part.RulePart.{RulePart}
use Rattle.cal_rule.specs.declared.rule_part.RulePart.TheVariants as part
use Rattle.cal_rule.specs.declared.skip.Skip.TheVariants.{Omit}
use Rattle.rule_lists.proofs.ListedSets.{months-exist, places-exist, weekdays-exist}

-- ---- INTERVAL

-- a number that is taken where it is from 1 on and not too large, or else 1, is positive
taken-positive : {E : Type 0} (n most : ℕ) (e : E) →
    0 < unwrap_or (result_ok (if nat_le 1 n && nat_le n most then Ok n else Err e)) 1
taken-positive n most e = by_test (nat_le 1 n) (nat_le n most) refl
  where
    by_test : (b c : Bool) → nat_le 1 n ≡ b → 0 < unwrap_or (result_ok (if b && c then Ok n else Err e)) 1
    by_test true true is = grind (arith, nat_tests, is)
    by_test true false is = omega arith
    by_test false c is = omega arith

-- and so is one that is looked at only where a test says so
tested-positive : {E : Type 0} (b : Bool) (n most : ℕ) (e f : E) →
    0 < unwrap_or (result_ok (if b then (if nat_le 1 n && nat_le n most then Ok n else Err e) else Err f)) 1
tested-positive true n most e f = taken-positive n most e
tested-positive false n most e f = omega arith

-- an interval that was read, or 1, is positive
interval-positive : (value : Option (List ℕ)) → 0 < unwrap_or (said_with count_read value) 1
interval-positive None = omega arith
interval-positive (Some text) = search tested-positive

-- ---- FREQ

-- where neither of two errors comes, the second doesn't
no_second : (a b : Option RuleError) → option_or a b ≡ None → b ≡ None
no_second None b none = none
no_second (Some e) b none = cc

-- where nothing is wrong with the whole, a frequency was read
frequency-read : (f : Option Frequency) (values : RulePart → Option (List ℕ)) → beside_frequency f values ≡ None →
    (frequency : Frequency) × (f ≡ Some frequency)
frequency-read None values none = cc
frequency-read (Some f) values none = (f, refl)

-- ---- rules

-- what the values of the parts say is a rule, if a frequency was read
says-exist : (kind : AnyCalendarKind) (values : RulePart → Option (List ℕ)) (f : Frequency) →
    said_with frequency_read (values part.Freq) ≡ Some f → (rule : RecurrenceRule) × SaysRule kind values rule
says-exist kind values f frequency =
    let months = months-exist (values_of (month_read kind) (values part.ByMonth)) in
    let month_days = places-exist 1 (values_of (month_day_read kind) (values part.ByMonthDay)) in
    let year_days = places-exist 7 (values_of (year_day_read kind) (values part.ByYearDay)) in
    let weeks = places-exist 1 (values_of (week_read kind) (values part.ByWeekNo)) in
    let weekdays = weekdays-exist (values_of (weekday_in_kind kind) (values part.ByDay)) in
    let positions = places-exist 7 (values_of (year_day_read kind) (values part.BySetPos)) in (
      record {
        frequency = f;
        interval = unwrap_or (said_with count_read (values part.Interval)) 1;
        count = said_with count_read (values part.Count);
        until = said_with until_read (values part.Until);
        months = months.0;
        month_days = month_days.0;
        year_days = year_days.0;
        weeks = weeks.0;
        weekdays = weekdays.0;
        positions = positions.0;
        week_start = unwrap_or (said_with weekday_read (values part.Wkst)) Monday;
        skip = unwrap_or (said_with skip_read (values part.Skip)) Omit;
        every = interval-positive (values part.Interval);
      },
      record {
        frequency = frequency;
        interval = refl;
        count = refl;
        until = refl;
        months = months.1;
        month_days = month_days.1;
        year_days = year_days.1;
        weeks = weeks.1;
        weekdays = weekdays.1;
        positions = positions.1;
        week_start = refl;
        skip = refl;
      },
    )

-- a text with no fault spells a rule
pub rule-exists : (kind : AnyCalendarKind) (text : List ℕ) → rule_fault kind text ≡ None →
    (rule : RecurrenceRule) × IsRuleText kind text rule
rule-exists kind text faultless =
    let values = value_of (parts_of text) in
    let whole = no_second (first_fault kind [] (parts_of text)) (whole_fault values) faultless in
    let frequency = frequency-read (said_with frequency_read (values part.Freq)) values whole in
    let said = says-exist kind values frequency.0 frequency.1 in
    (said.0, record { faultless = faultless; says = said.1 })
