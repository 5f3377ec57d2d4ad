-- What the words of the lists ask for.
use Rattle.std.specs.Prelude.{ℕ, ℤ, List, [], ◌∷◌, Option, Some, None, codes, if◌then◌else◌}
use Rattle.std.specs.Option.{option_map}
use Rattle.cal_types.specs.Bag.{Bag}
use Rattle.cal_types.specs.Month.{MonthParts, month_read}
use Rattle.cal_types.specs.declared.leaping.Leaping.{Leaping}
use Rattle.cal_types.specs.declared.leaping.Leaping.TheVariants.{Exact}
use Rattle.cal_types.specs.declared.leaping.Leaping.TheVariants as leaping
use Rattle.cal_types.specs.declared.duration.DateDurationUnit.{DateDurationUnit}
use Rattle.cal_types.specs.declared.duration.DateDurationUnit.TheVariants.{Years, Months, Weeks, Days}
use Rattle.cal_kinds.specs.KindNames.{kind_named}
use Rattle.cal_kinds.specs.declared.any_calendar_kind.AnyCalendarKind.{AnyCalendarKind}
use Rattle.cal_recur.specs.declared.rule.Missing.{Missing}
use Rattle.cal_recur.specs.declared.rule.Missing.TheVariants as missing
use Rattle.word_values.specs.Numbers.{byte_of, int_of, number_of}
use Rattle.request_lines.specs.Words.{is_text}
use Rattle.request_lines.specs.Reading.{Read, next_word, and_then}
use Rattle.request_lines.specs.Bags.{no_fields, with_whole_word}

-- the anniversaries of a month and a day in a calendar, shown in a second one, from a first day to a last one
pub record AnniversaryAsked : Type 0 where
  pub calendar : AnyCalendarKind
  pub shown : AnyCalendarKind
  pub leaping : Leaping
  pub month : MonthParts
  pub day : ℕ
  pub first : ℤ
  pub last : ℤ

-- what becomes of a year that lacks the month or the day
abbrev pub leaping_named : List ℕ → Option Leaping
leaping_named word =
    if is_text word (codes "exact") then Some leaping.Exact
    else (if is_text word (codes "constrain") then Some leaping.Constrain else None)

-- `CAL SHOWN exact|constrain CODE DAY FIRST LAST`
unfoldable pub anniversary_read : List (List ℕ) → Read AnniversaryAsked
anniversary_read words =
    and_then (next_word kind_named words) (λ calendar words.
    and_then (next_word kind_named words) (λ shown words.
    and_then (next_word leaping_named words) (λ leaping words.
    and_then (next_word month_read words) (λ month words.
    and_then (next_word byte_of words) (λ day words.
    and_then (next_word int_of words) (λ first words.
    and_then (next_word int_of words) (λ last words.
    Some (
      record {
        calendar = calendar;
        shown = shown;
        leaping = leaping;
        month = month;
        day = day;
        first = first;
        last = last;
      },
      words,
    ))))))))

-- the holidays of a book, from a first day to a last one
pub record HolidaysAsked : Type 0 where
  pub first : ℤ
  pub last : ℤ

-- `FIRST LAST`
unfoldable pub holidays_read : List (List ℕ) → Read HolidaysAsked
holidays_read words =
    and_then (next_word int_of words) (λ first words.
    and_then (next_word int_of words) (λ last words.
    Some (record { first = first; last = last }, words)))

-- what a recurrence is asked for, before the fields of its start
pub record RecurHeader : Type 0 where
  pub calendar : AnyCalendarKind
  pub shown : AnyCalendarKind
  pub unit : DateDurationUnit
  pub every : ℕ
  pub missing : Missing
  pub first : ℤ
  pub last : ℤ

-- and with them
pub record RecurAsked : Type 0 where
  pub header : RecurHeader
  pub start : Bag

abbrev pub unit_named : List ℕ → Option DateDurationUnit
unit_named word =
    if is_text word (codes "years") then Some Years
    else (if is_text word (codes "months") then Some Months
    else (if is_text word (codes "weeks") then Some Weeks
    else (if is_text word (codes "days") then Some Days else None)))

-- one to nine digits
abbrev pub every_of : List ℕ → Option ℕ
every_of word = number_of 9 word

-- what becomes of an occurrence whose year or month lacks it
abbrev pub missing_named : List ℕ → Option Missing
missing_named word =
    if is_text word (codes "skip") then Some missing.Skip
    else (if is_text word (codes "constrain") then Some missing.Constrain else None)

-- `CAL SHOWN UNIT EVERY skip|constrain FIRST LAST`
unfoldable pub recur_header_read : List (List ℕ) → Read RecurHeader
recur_header_read words =
    and_then (next_word kind_named words) (λ calendar words.
    and_then (next_word kind_named words) (λ shown words.
    and_then (next_word unit_named words) (λ unit words.
    and_then (next_word every_of words) (λ every words.
    and_then (next_word missing_named words) (λ missing words.
    and_then (next_word int_of words) (λ first words.
    and_then (next_word int_of words) (λ last words.
    Some (
      record {
        calendar = calendar;
        shown = shown;
        unit = unit;
        every = every;
        missing = missing;
        first = first;
        last = last;
      },
      words,
    ))))))))

-- the bag of the fields of all words
abbrev pub fields_of : Option Bag → List (List ℕ) → Option Bag
fields_of None words = None
fields_of (Some bag) [] = Some bag
fields_of (Some bag) (word ∷ words) = fields_of (with_whole_word bag word) words

abbrev pub recur_with : RecurHeader → Bag → RecurAsked
recur_with header start = record { header = header; start = start }

-- `CAL SHOWN UNIT EVERY skip|constrain FIRST LAST FIELDS`, with zero or more fields
unfoldable pub recur_of : List (List ℕ) → Option RecurAsked
recur_of words =
    and_then (recur_header_read words)
    (λ header words. option_map (recur_with header) (fields_of (Some no_fields) words))
