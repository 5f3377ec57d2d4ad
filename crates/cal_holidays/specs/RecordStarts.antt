-- The fields of a record that say a recurrence rule and its start.
use Rattle.std.specs.Prelude.{ℕ, Bool, ◌==◌, ◌&&◌, List, drop, take, length, get_or, Option, Some, None, ℤ, pos, is_none, if◌then◌else◌}
use Rattle.std.specs.Option.{option_and_then, option_map}
use Rattle.std.specs.Result.{result_ok}
use Rattle.cal_base.specs.IsoSystem.{iso_system}
use Rattle.cal_kinds.specs.declared.any_calendar_kind.AnyCalendarKind.{AnyCalendarKind}
use Rattle.cal_rule.specs.RuleText.{rule_fault}
use Rattle.cal_types.specs.Bag.{Bag}
use Rattle.cal_types.specs.CalendarList.{day_number}
use Rattle.cal_types.specs.CalendarSystem.{resolve_fields}
use Rattle.cal_types.specs.Month.{plain_month}
use Rattle.cal_types.specs.declared.options.DateFromFieldsOptions.{DateFromFieldsOptions}
use Rattle.word_values.specs.Numbers.{number_of}
use Rattle.cal_holidays.specs.RecordWords.{where_passes}

-- a text that is a recurrence rule for a kind of calendar
abbrev pub recurrence_read : AnyCalendarKind → List ℕ → Option (List ℕ)
recurrence_read calendar = where_passes (λ text. is_none (rule_fault calendar text))

-- a year, a month and a day of the ISO calendar
abbrev pub iso_fields : ℕ → ℕ → ℕ → Bag
iso_fields year month day = record {
  era = None;
  era_year = None;
  extended_year = Some (pos year);
  month = Some (plain_month month);
  month_code = None;
  ordinal_month = None;
  day = Some day;
}

abbrev pub no_options : DateFromFieldsOptions
no_options = record { overflow = None; missing_fields_strategy = None }

-- the day of a date that exists
abbrev pub iso_day : ℕ → ℕ → ℕ → Option ℤ
iso_day year month day =
    option_map (day_number iso_system.list)
    (result_ok (resolve_fields iso_system (iso_fields year month day) no_options))

-- ten bytes, of which the fifth and the eighth are hyphens (45)
abbrev pub is_dashed : List ℕ → Bool
is_dashed text = length text == 10 && (get_or text 4 0 == 45 && get_or text 7 0 == 45)

-- the day of a date such as 2024-02-29
abbrev pub start_read : List ℕ → Option ℤ
start_read text =
    if is_dashed text then
    option_and_then (λ year. option_and_then (λ month. option_and_then (λ day. iso_day year month day)
    (number_of 2 (drop 8 text))) (number_of 2 (take 2 (drop 5 text)))) (number_of 4 (take 4 text))
    else None
