-- What a request line asks: two bags of fields of one calendar, a second calendar, and a largest unit.
use Rattle.std.specs.Prelude.{ℕ, List, Option, Some, None, option_map, codes, if◌then◌else◌}
use Rattle.cal_types.specs.Bag.{Bag}
use Rattle.cal_types.specs.declared.options.Overflow.{Overflow}
use Rattle.cal_types.specs.declared.options.Overflow.TheVariants as overflow
use Rattle.cal_types.specs.declared.options.MissingFieldsStrategy.{MissingFieldsStrategy}
use Rattle.cal_types.specs.declared.options.MissingFieldsStrategy.TheVariants as missing
use Rattle.cal_types.specs.declared.duration.DateDurationUnit.{DateDurationUnit}
use Rattle.cal_types.specs.declared.duration.DateDurationUnit.TheVariants.{Years, Months, Weeks, Days}
use Rattle.request_lines.specs.Words.{is_text}
use Rattle.request_lines.specs.Reading.{Read, next_word, and_then}
use Rattle.request_lines.specs.Bags.{no_fields, bag_before_to, bag_of_all}
use Rattle.cal_kinds.specs.KindNames.{kind_named}
use Rattle.cal_kinds.specs.declared.any_calendar_kind.AnyCalendarKind.{AnyCalendarKind}

pub record Request : Type 0 where
  pub calendar : AnyCalendarKind
  pub shown : AnyCalendarKind
  pub unit : Option DateDurationUnit
  pub overflow : Option Overflow
  pub missing_fields : Option MissingFieldsStrategy
  pub from : Bag
  pub to : Bag

-- the largest unit of a word; `none` where it is left out
abbrev pub unit_named : List ℕ → Option (Option DateDurationUnit)
unit_named word =
    if is_text word (codes "years") then Some (Some Years)
    else (if is_text word (codes "months") then Some (Some Months)
    else (if is_text word (codes "weeks") then Some (Some Weeks)
    else (if is_text word (codes "days") then Some (Some Days)
    else (if is_text word (codes "none") then Some None else None))))

-- what becomes of a month or a day that isn't there; `none` where the option is left out
abbrev pub overflow_named : List ℕ → Option (Option Overflow)
overflow_named word =
    if is_text word (codes "constrain") then Some (Some overflow.Constrain)
    else (if is_text word (codes "reject") then Some (Some overflow.Reject)
    else (if is_text word (codes "none") then Some None else None))

-- what becomes of fields that aren't given; `none` where the option is left out
abbrev pub missing_fields_named : List ℕ → Option (Option MissingFieldsStrategy)
missing_fields_named word =
    if is_text word (codes "reject") then Some (Some missing.Reject)
    else (if is_text word (codes "ecma") then Some (Some missing.Ecma)
    else (if is_text word (codes "none") then Some None else None))

-- a word that says nothing of its own
abbrev pub fixed_word : List ℕ → List ℕ → Option (Unit {0})
fixed_word name word = if is_text word name then Some tt else None

-- what stands before the bags
pub record Header : Type 0 where
  pub calendar : AnyCalendarKind
  pub shown : AnyCalendarKind
  pub unit : Option DateDurationUnit
  pub overflow : Option Overflow
  pub missing_fields : Option MissingFieldsStrategy

-- `span CAL SHOWN UNIT OVERFLOW MISSING from`
unfoldable pub header_read : List (List ℕ) → Read Header
header_read words =
    and_then (next_word (fixed_word (codes "span")) words) (λ _ words.
    and_then (next_word kind_named words) (λ calendar words.
    and_then (next_word kind_named words) (λ shown words.
    and_then (next_word unit_named words) (λ unit words.
    and_then (next_word overflow_named words) (λ overflow words.
    and_then (next_word missing_fields_named words) (λ missing_fields words.
    and_then (next_word (fixed_word (codes "from")) words) (λ _ words.
    Some (
      record {
        calendar = calendar;
        shown = shown;
        unit = unit;
        overflow = overflow;
        missing_fields = missing_fields;
      },
      words,
    ))))))))

-- a header and two bags
abbrev pub request_of : Header → Bag → Bag → Request
request_of h from to = record {
  calendar = h.calendar;
  shown = h.shown;
  unit = h.unit;
  overflow = h.overflow;
  missing_fields = h.missing_fields;
  from = from;
  to = to;
}

-- `span CAL SHOWN UNIT OVERFLOW MISSING from FIELDS to FIELDS`
unfoldable pub request_read : List (List ℕ) → Option Request
request_read words =
    and_then (header_read words) (λ header words.
    and_then (bag_before_to (Some no_fields) words) (λ from words.
    option_map (request_of header from) (bag_of_all (Some no_fields) words)))
